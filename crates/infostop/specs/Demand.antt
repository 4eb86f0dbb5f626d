-- Demand 3, of the labels and the mark that an accepted fit gives for its settings and traces. Nothing else that a fit hands back is spoken of: the
-- distinct medians, each on the settings' grid, follow from settings and traces, and the groups from the labels of the fixes. Definitions only.
use Rattle.std.specs.Prelude.{◌≡◌, ◌↔◌, ◌≢◌, ◌⊎◌, ℕ, ◌+◌, ◌*◌, ◌<◌, Bool, true, false, cond, List, [], ◌∷◌, map, eqb, ℤ, pos, negsuc, length, get_or, Float}
use Rattle.std.proofs.Math.Option.{Option, none, some}
use Rattle.std.specs.Float.Ieee.{lt, neg}
use Rattle.lists.specs.Lists.{minus_one}
use Rattle.distance.specs.declared.Point.{Point}
use Rattle.trace.specs.Trace.{Fix, fix_count}
use Rattle.neighbors.specs.Places.{Place, place_of, places}
use Rattle.distance.specs.Distance.{Metric}
use Rattle.neighbors.specs.Links.{link, nodes}
use Rattle.neighbors.specs.Chains.{Chain}
use Rattle.rng.specs.Rng.{seeded}
use Rattle.map_state.specs.Network.{Network}
use Rattle.map_state.specs.MapState.{delta_move}
use Rattle.codelength.specs.Codelength.{from_partition}
use Rattle.scan.specs.Scan.{margin}
use Rattle.infomap.specs.Infomap.{RunMark, rest}
use Rattle.run_laws.specs.KeptTrial.{KeptQuiet}
use Rattle.cluster.specs.Cluster.{node_network}
use Rattle.settings.specs.declared.config.Config.{Config}
use Rattle.stay.specs.Stays.{all_medians, all_fix_medians}

-- The settings and traces of a fit, and what it gave: the labels of the fixes, in order of the traces, and the mark.
pub record Given : Type 0 where
  pub dist : Metric
  pub config : Config
  pub traces : List (List Fix)
  pub labels : List ℤ
  pub mark : RunMark

-- Whether a fix that lies at the median, or at none, lies in place i.
unfoldable pub is_in : List Place → ℕ → Option Point → Bool
is_in ps i none = false
is_in ps i (some m) = eqb (place_of ps m) i

-- The label of the first fix that lies in place i, where the fixes lie at these medians and have these labels; -1 where none does.
unfoldable pub label_in : List Place → ℕ → List (Option Point) → List ℤ → ℤ
label_in ps i [] ls = minus_one
label_in ps i (m ∷ ms) [] = minus_one
label_in ps i (m ∷ ms) (l ∷ ls) = let r = label_in ps i ms ls in cond (is_in ps i m) l r

-- A number for each label, and another one for another label.
unfoldable pub numbered : ℤ → ℕ
numbered (pos l) = 2 * l
numbered (negsuc l) = 2 * l + 1

module _ (g : Given) where
  -- Of each fix the median, on the settings' grid, of the accepted stay that it lies in, or none.
  abbrev pub medians : List (Option Point)
  medians = all_fix_medians g.dist g.config g.traces

  -- The distinct medians, on the grid.
  abbrev pub distinct : List Place
  distinct = places (all_medians g.dist g.config g.traces)

  -- The radius within which two of them link.
  abbrev pub radius : Float
  radius = g.config.r2

  abbrev pub label_of : ℕ → ℤ
  label_of k = get_or g.labels k minus_one

  -- Fix k lies in no accepted stay.
  abbrev pub Outside : ℕ → Type 0
  Outside k = get_or medians k none ≡ none

  -- Fix k lies in an accepted stay whose median is the distinct median i.
  pub record LiesIn (k i : ℕ) : Type 0 where
    pub median : Point
    pub lies : get_or medians k none ≡ some median
    pub place : place_of distinct median ≡ i
    pub inside : i < length distinct

  -- No other distinct median is within r2 of i.
  abbrev pub Alone : ℕ → Type 0
  Alone i = (j : ℕ) → j < length distinct → link g.dist radius distinct i j ≡ false

  -- The linked medians, in order; node u is the linked median `node_at u`.
  abbrev pub linked_medians : List ℕ
  linked_medians = nodes g.dist radius distinct

  abbrev pub node_at : ℕ → ℕ
  node_at u = get_or linked_medians u 0

  abbrev pub net : Network
  net = node_network g.dist radius distinct

  -- The label of the distinct median i: that of the fixes that lie in it.
  abbrev pub median_label : ℕ → ℤ
  median_label i = label_in distinct i medians g.labels

  -- The groups that the labels show: two linked medians are in one group exactly when their labels are equal.
  abbrev pub shown_groups : List ℕ
  shown_groups = map (λ i. numbered (median_label i)) linked_medians

  -- h is another group than u's, and a median linked to u's is in it.
  pub record NeighbourGroup (u h : ℕ) : Type 0 where
    pub node : ℕ
    pub inside : node < length linked_medians
    pub link : link g.dist radius distinct (node_at u) (node_at node) ≡ true
    pub group : get_or shown_groups node 0 ≡ h
    pub other : h ≢ get_or shown_groups u 0

  -- h is the group of no linked median: a group of u's own.
  abbrev pub NewGroup : ℕ → Type 0
  NewGroup h = (v : ℕ) → v < length linked_medians → get_or shown_groups v 0 ≢ h

  -- The change of codelength if node u moves to group h, by the rules' formula, with every sum made afresh from the groups that the labels show.
  abbrev pub change : ℕ → ℕ → Float
  change u h = delta_move net (from_partition net shown_groups) u h

  pub record Demand3 : Type 0 where
    -- Each fix has a label: -1, or a number from 0 up.
    pub each : length g.labels ≡ fix_count g.traces
    pub numbers : (k : ℕ) → k < fix_count g.traces → (label_of k ≡ minus_one) ⊎ ((l : ℕ) × (label_of k ≡ pos l))
    -- (a) A fix's label is -1 exactly when it lies in no accepted stay, or singles go unlabelled and no other distinct median is within r2 of its own.
    pub unlabelled : (k : ℕ) → k < fix_count g.traces → (label_of k ≡ minus_one) ↔ (Outside k ⊎ ((i : ℕ) × LiesIn k i × Alone i × (g.config.label_singleton ≡ false)))
    -- (b) Two fixes of one non-negative label, in whatever traces, have medians joined by a chain of distinct medians, each step's computed distance at most r2.
    pub joined : (k k' l : ℕ) → k < fix_count g.traces → k' < fix_count g.traces → label_of k ≡ pos l → label_of k' ≡ pos l
        → (i : ℕ) × (i' : ℕ) × LiesIn k i × LiesIn k' i' × Chain g.dist radius distinct i i'
    -- (c) The mark is rest exactly when no distinct median is linked, or a trial is kept and no node changed its group in its last round.
    pub marked : (g.mark ≡ rest) ↔ (((i : ℕ) → i < length distinct → Alone i) ⊎ KeptQuiet net (seeded g.config.seed))
    -- (d) All fixes of a distinct median have its label;
    pub shown : (k i : ℕ) → LiesIn k i → label_of k ≡ median_label i
    -- and under rest no single move of a linked median, into the group of a median linked to it or into one of its own, changes the codelength by
    -- less than -1e-15.
    pub settled : g.mark ≡ rest → (u h : ℕ) → u < length linked_medians → NeighbourGroup u h ⊎ NewGroup h → lt (change u h) (neg margin) ≡ false
