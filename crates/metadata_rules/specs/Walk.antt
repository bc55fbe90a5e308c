-- The walk over the intervals of one name by their two heads, a and b (RULES, Merging metadata).
use Rattle.std.specs.Prelude.{ℕ, min, max, Bool, ◌&&◌, cond, List, [], ◌∷◌, leb, eqb}
use Rattle.metadata_rules.specs.declared.Interval.{Interval}
use Rattle.metadata_rules.specs.declared.IntervalOrdering.{IntervalOrdering}
use Rattle.metadata_rules.specs.declared.IntervalOrdering.TheVariants.{Equal, Less, Greater, Overlap}

abbrev pub interval : ℕ → ℕ → ℕ → Interval
interval a b s = record { start = a; end = b; symbol = s }

-- what a walk answers: the intervals of both lists, or that two conflict
pub data Walked : Type 0 where
  conflict : Walked
  laid : List Interval → Walked

unfoldable pub same_dates : Interval → Interval → Bool
same_dates a b = eqb a.start b.start && eqb a.end b.end

-- how the two heads lie
unfoldable pub ordering : Interval → Interval → IntervalOrdering
unfolding same_dates
ordering a b =
    cond (same_dates a b) Equal
    (cond (leb a.end b.start) Less
    (cond (leb b.end a.start) Greater Overlap))

-- lesser start to greater end
unfoldable pub joined : Interval → Interval → Interval
joined a b = interval (min a.start b.start) (max a.end b.end) a.symbol

-- x goes out, and then the rest
unfoldable pub out : Interval → Walked → Walked
out x conflict = conflict
out x (laid xs) = laid (x ∷ xs)

-- x goes out where the symbols are the same
unfoldable pub agreed : Interval → Interval → Interval → Walked → Walked
unfolding out
agreed a b x rest = cond (eqb a.symbol b.symbol) (out x rest) conflict

-- the heads a and b lie so; the rest of the walk where both, only a, or only b is consumed
unfoldable pub heads : Interval → Interval → IntervalOrdering → Walked → Walked → Walked → Walked
unfolding out agreed joined
heads a b Equal both past_a past_b = agreed a b a both
heads a b Less both past_a past_b = out a past_a
heads a b Greater both past_a past_b = out b past_b
heads a b Overlap both past_a past_b = agreed a b (joined a b) both

-- the left list is a and then al; `go` walks al with a right list
unfoldable pub against : Interval → List Interval → (List Interval → Walked) → List Interval → Walked
unfolding ordering heads
against a al go [] = laid (a ∷ al)
against a al go (b ∷ bs) = heads a b (ordering a b) (go bs) (go (b ∷ bs)) (against a al go bs)

unfoldable pub walk : List Interval → List Interval → Walked
unfolding against
walk [] bs = laid bs
walk (a ∷ al) bs = against a al (walk al) bs

-- the walk over list after list, from what was gathered so far

unfoldable pub then_all : (List Interval → Walked) → Walked → Walked
then_all go conflict = conflict
then_all go (laid xs) = go xs

unfoldable pub walk_all : List Interval → List (List Interval) → Walked
unfolding walk then_all
walk_all s [] = laid s
walk_all s (t ∷ ts) = then_all (λ u. walk_all u ts) (walk s t)
