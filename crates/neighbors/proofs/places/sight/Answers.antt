-- `neighbors::places::sight` meets its contract.
-- Kept: the check does not find what stands here, also with the lemmas named on the function.
use Rattle.std.proofs.Common.{◌<◌, length, arith, rules}
use Rattle.neighbors.proofs.Laid.{sight_place, sight_few, sight_again, sight_full, sight_new}
use Rattle.neighbors.proofs.places.sight.Goals as goal

pub bounds-counts-i : goal.bounds-counts-i
bounds-counts-i c =
    let h = sight_place _ _ _ _ _ c.requires.0 c.requires.1 c.requires.2 c.place_of.ensures _ c.in-Some.is in
    omega arith

pub bounds-counts-i-in-Some : goal.bounds-counts-i-in-Some
bounds-counts-i-in-Some c =
    let h = sight_place _ _ _ _ _ c.requires.0 c.requires.1 c.requires.2 c.place_of.ensures _ c.in-Some.is in
    omega arith

pub offset_bounds-counts-i : goal.offset_bounds-counts-i
offset_bounds-counts-i c =
    let h = sight_place _ _ _ _ _ c.requires.0 c.requires.1 c.requires.2 c.place_of.ensures _ c.in-Some.is in
    let k : c.in-Some.i < length c.args.counts.now = omega arith in
    search rules

pub overflow_add-counts : goal.overflow_add-counts
overflow_add-counts c =
    let h = sight_few _ _ _ _ _ c.requires.0 c.requires.1 c.requires.2 c.place_of.ensures _ c.in-Some.is in
    record { fits = omega arith }

pub returns-in-Some : goal.returns-in-Some
returns-in-Some c = sight_again _ _ _ _ _ c.requires.0 c.requires.1 c.requires.2 c.place_of.ensures _ c.in-Some.is

pub returns-then-xs-n : goal.returns-then-xs-n
returns-then-xs-n c = sight_full _ _ _ _ _ c.requires.0 c.requires.1 c.requires.2 c.place_of.ensures c.in_default.is c.if-xs-n.true

pub returns : goal.returns
returns c = sight_new _ _ _ _ _ c.requires.0 c.requires.1 c.requires.2 c.place_of.ensures c.in_default.is c.if-xs-n.false
