-- What a mapping asks of the table, by what its parts answered. Assumes nothing.
use Rattle.std.specs.Prelude.{◌≡◌, ◌≢◌, ℕ, List, length}
use Rattle.std.proofs.Math.Path.{sym, ap}
use Rattle.std.proofs.Common.{◌∙◌}
use Rattle.map_point.specs.declared.entries.Entry.{Entry}
use Rattle.metadata_rules.specs.declared.Interval.{Interval}
use Rattle.build_rules.specs.declared.reading.Direction.{Direction}
use Rattle.build_rules.specs.declared.reading.Direction.TheVariants.{Forward, Inverse}
use Rattle.build_rules.specs.Reading.{Read, fault, value, text_of, number_in}
use Rattle.build_rules.specs.OverTime.{Step, stop, skip, give, reading}
use Rattle.build_rules.specs.OverTimeLaws.{text_stops, text_skips, text_reads}
use Rattle.build_rules.specs.PointInTime.{Counted, undated, none, counts, point_step, number_step, name_step, number_side, entry_of}
use Rattle.build_rules.specs.PointInTimeLaws.{stepped, name_read}

-- ---- the mapping's name, then the number

module _ (texts : List (List ℕ)) (d : Direction) (name n : ℕ) (symbol : List ℕ) where
  pub name_stops : (c : ℕ) → fault c ≡ text_of texts name → stop c ≡ name_step texts d name n symbol
  unfolding reading
  name_stops c e = name_read texts d name n symbol e

  module _ (mapped : List ℕ) (e : value mapped ≡ text_of texts name) where
    -- the number as its side says
    numbered : {r : Read ℕ} → r ≡ number_in (number_side d symbol mapped) → reading r (λ i. give (entry_of d i n name)) ≡ name_step texts d name n symbol
    unfolding reading number_step
    numbered p = ap (λ (r : Read ℕ). reading r (λ i. give (entry_of d i n name))) p ∙ name_read texts d name n symbol e

    pub forward_stops : (c : ℕ) → d ≡ Forward → fault c ≡ number_in symbol → stop c ≡ name_step texts d name n symbol
    unfolding reading number_side
    forward_stops c f p = numbered (p ∙ ap (λ (d : Direction). number_in (number_side d symbol mapped)) (sym f))

    pub forward_gives : (i : ℕ) → d ≡ Forward → value i ≡ number_in symbol → give (record { instrument = i; symbol = name }) ≡ name_step texts d name n symbol
    unfolding reading number_side entry_of
    forward_gives i f p =
        ap (λ (d : Direction). give (entry_of d i n name)) (sym f) ∙ numbered (p ∙ ap (λ (d : Direction). number_in (number_side d symbol mapped)) (sym f))

    pub inverse_stops : (c : ℕ) → d ≡ Inverse → fault c ≡ number_in mapped → stop c ≡ name_step texts d name n symbol
    unfolding reading number_side
    inverse_stops c f p = numbered (p ∙ ap (λ (d : Direction). number_in (number_side d symbol mapped)) (sym f))

    pub inverse_gives : (i : ℕ) → d ≡ Inverse → value i ≡ number_in mapped → give (record { instrument = i; symbol = n }) ≡ name_step texts d name n symbol
    unfolding reading number_side entry_of
    inverse_gives i f p =
        ap (λ (d : Direction). give (entry_of d i n name)) (sym f) ∙ numbered (p ∙ ap (λ (d : Direction). number_in (number_side d symbol mapped)) (sym f))

-- ---- the interval's symbol

module _ (texts : List (List ℕ)) (d : Direction) (name : ℕ) (x : Interval) where
  pub symbol_stops : (c : ℕ) → fault c ≡ text_of texts x.symbol → stop c ≡ point_step texts d name (counts 0 x)
  symbol_stops c e = text_stops _ e ∙ sym (stepped texts d name 0 x)

  module _ (text : List ℕ) (e : value text ≡ text_of texts x.symbol) where
    pub symbol_skips : length text ≡ 0 → skip ≡ point_step texts d name (counts 0 x)
    symbol_skips h = text_skips _ e h ∙ sym (stepped texts d name 0 x)

    pub symbol_reads : (s : Step Entry) → s ≡ name_step texts d name x.symbol text → length text ≢ 0 → s ≡ point_step texts d name (counts 0 x)
    symbol_reads s p h = p ∙ text_reads (name_step texts d name x.symbol) e h ∙ sym (stepped texts d name 0 x)

-- ---- what the search found

-- the step of what was found; the interval's number does not count
module _ (texts : List (List ℕ)) (d : Direction) (name : ℕ) (z : Counted) where
  pub found_stops : (k : ℕ) → undated k ≡ z → stop 11 ≡ point_step texts d name z
  unfolding point_step
  found_stops k = ap (point_step texts d name)

  pub found_none : none ≡ z → skip ≡ point_step texts d name z
  unfolding point_step
  found_none = ap (point_step texts d name)

  pub found_one : (k : ℕ) (x : Interval) → counts k x ≡ z → point_step texts d name (counts 0 x) ≡ point_step texts d name z
  unfolding point_step
  found_one k x = ap (point_step texts d name)

-- what each part of a mapping's step comes to
pub ruleset naming = (name_stops, forward_stops, forward_gives, inverse_stops, inverse_gives)

pub ruleset looking = (symbol_stops, symbol_skips, symbol_reads)

pub ruleset finding = (found_stops, found_none, found_one)
