-- `map_state::MapState::apply_move` meets its contract. The steps of the definition one by one, with the lowest members kept.
-- Kept: the check does not find what stands here, also with the lemmas named on the function.
use mathlib.Core.Path.{ap}
use native.Mathlib.Omega.{arith}
use Rattle.map_state.specs.MapState.{MapState}
use Rattle.map_state.proofs.Moves.{moved_view, moved_firsts}
use Rattle.map_state.proofs.MapState.apply_move.Goals as goal

pub invariant_of-self : goal.invariant_of-self
invariant_of-self c =
    let i = c.self.inside in
    let s = c.args.self.now in (
      c.self.invariant.0,
      moved_firsts i.n i.partition s c.args.u c.args.h (ap (λ (x : MapState). x.partition) c.self.view_is) (omega arith) c.requires.1 i.first _ _ c.self.invariant.1
          (rw c.partition.ensures.0 at c.store_group.ensures.2) c.store_group-2.ensures.2,
    )

pub invariant_of-self-2 : goal.invariant_of-self-2
invariant_of-self-2 c =
    let i = c.self.inside in
    let s = c.args.self.now in (
      c.self.invariant.0,
      moved_firsts i.n i.partition s c.args.u c.args.h (ap (λ (x : MapState). x.partition) c.self.view_is) (omega arith) c.requires.1 i.first _ _ c.self.invariant.1
          (rw c.partition.ensures.0 at c.store_group.ensures.2) c.store_group-2.ensures.2,
    )

pub returns : goal.returns
returns c =
    let i = c.self.inside in
    let s = c.args.self.now in
    moved_view i.n i.partition s c.args.u c.args.h (ap (λ (x : MapState). x.partition) c.self.view_is) (omega arith) c.requires.1 c.args.net.now _ i.exits _ _ i.strengths _ _ _
    c.moved_by-mv.ensures (ap (λ (x : MapState). x.exits) c.self.view_is) (ap (λ (x : MapState). x.strengths) c.self.view_is)
    (rw c.partition.ensures.0 at c.store_group.ensures.0) c.store_group-2.ensures.0 (rw c.partition.ensures.0 at c.store_group.ensures.1) c.store_group-2.ensures.1
    (rw c.d.ensures at c.sum_q-self-inside.ensures)
