-- The loop over the records: the machine over those from i on.
use mathlib.Core.Path.{◌≡◌}
use mathlib.Core.List.{List}
use Prim.Native.Nat.{ℕ, ◌+◌, ◌<◌, ◌≤◌}
use native.Mathlib.Numerals.{add-one}
use lib.ListN.{length, get_or, drop, drop_of_length-le}
use lib.Seq.{drop-cons}
use Rattle.records.specs.declared.FixRecord.{FixRecord}
use Rattle.records.specs.declared.judge.Judge.{Judge}
use Rattle.records.specs.StepsJudge.{stepped, run}

pub run_next : (lens : List ℕ) (s : Judge) (fs : List FixRecord) (i : ℕ) (d : FixRecord) → i < length fs
    → run lens s (drop i fs) ≡ run lens (stepped lens s (get_or fs i d)) (drop (i + 1) fs)
unfolding run
run_next lens s fs i d h = rw (add-one i, drop-cons fs i d h)

pub run_end : (lens : List ℕ) (s : Judge) (fs : List FixRecord) (i : ℕ) → length fs ≤ i → run lens s (drop i fs) ≡ s
unfolding run
run_end lens s fs i h = rw (drop_of_length-le fs {i = i} h)
