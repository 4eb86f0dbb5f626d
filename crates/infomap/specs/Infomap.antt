-- Three trials on one generator, the kept one, and its labels (`run_infomap`). Definitions only.
use Rattle.std.specs.Prelude.{ℕ, zero, suc, Bool, true, false, cond, List, map, length, Float}
use Rattle.std.specs.Float.Ieee.{lt}
use Rattle.lists.specs.Lists.{upto}
use Rattle.float.specs.Binary64.{zero64, infinity64}
use Rattle.rng.specs.Rng.{seeded}
use Rattle.map_state.specs.Network.{Network}
use Rattle.map_state.specs.MapState.{lowest, leads}
use Rattle.codelength.specs.Codelength.{codelength}
use Rattle.optimize.specs.Rounds.{Run, optimize_partition}
use Rattle.infomap.specs.declared.Mark.{Mark}
use Rattle.infomap.specs.declared.Mark.TheVariants.{Rest, Spent, NoneKept}

-- The rules' marks of a run.
pub data RunMark : Type 0 where
  rest spent none_kept : RunMark

-- The mark that each case of the code's enum is.
unfoldable pub mark_of : Mark → RunMark
mark_of Rest = rest
mark_of Spent = spent
mark_of NoneKept = none_kept

-- A kept grouping: each node's group, the mark, the rounds of the kept trial, and its codelength.
pub record Grouping : Type 0 where
  pub partition : List ℕ
  pub mark : RunMark
  pub rounds : ℕ
  pub codelength : Float

-- The mark of a trial, by whether its last round still moved something.
unfoldable pub trial_mark : Bool → RunMark
trial_mark true = spent
trial_mark false = rest

-- A trial takes the place of what is kept if its codelength, computed afresh, is lower; NaN never is.
unfoldable pub keep : Network → Grouping → Run → Grouping
keep net k r =
    let l = codelength net r.state.partition in
    cond (lt l k.codelength) (record { partition = r.state.partition; mark = trial_mark r.moved; rounds = r.rounds; codelength = l }) k

-- So many trials, one after the other on the generator's state x.
unfoldable pub trials : Network → ℕ → ℕ → Grouping → Grouping
trials net zero x k = k
trials net (suc t) x k = let r = optimize_partition net x in trials net t r.rng (keep net k r)

-- Three trials; where no codelength is below infinity, none is kept: each node by itself.
unfoldable pub best_of_three : Network → ℕ → Grouping
best_of_three net x = trials net 3 x (record { partition = upto (length net.strength); mark = none_kept; rounds = 0; codelength = infinity64 })

-- The kept grouping, in internal numbers. Where D is not above 0 there is no link (or no node), and `run_infomap` answers
-- without a trial: each node by itself, at rest, rounds 0, and the codelength 0 that `recompute_l` gives there.
unfoldable pub kept_grouping : Network → ℕ → Grouping
kept_grouping net seed =
    cond (lt zero64 net.d)
    (best_of_three net (seeded seed))
    (record { partition = upto (length net.strength); mark = rest; rounds = 0; codelength = zero64 })

-- How many groups have their first member below v.
unfoldable pub rank : List ℕ → ℕ → ℕ
rank part zero = 0
rank part (suc v) = let r = rank part v in cond (leads part v) (suc r) r

-- `relabel_dense`: the groups get the labels 0 up by first member.
unfoldable pub relabel_dense : List ℕ → List ℕ
relabel_dense part = map (λ g. rank part (lowest g part)) part

-- `run_infomap`: the kept grouping in labels.
unfoldable pub run_infomap : Network → ℕ → Grouping
run_infomap net seed =
    let k = kept_grouping net seed in
    record { partition = relabel_dense k.partition; mark = k.mark; rounds = k.rounds; codelength = k.codelength }
