-- What the point-in-time build comes to, step by step, and what it comes to in all: the table is sorted with known symbols, the latest
-- entry of an instrument decides, and only the rules' refusals are given. Assumes nothing.
use Rattle.std.proofs.Math.Path.{◌≡◌, refl, sym, ap}
use Rattle.std.proofs.Common.{◌∙◌, arith, leb→le, lt-ltb, le-ltb, le-leb}
use Rattle.std.specs.Prelude.{ℕ, ◌+◌, ◌-◌, ◌*◌, ◌≤◌, ◌<◌, Bool, true, false, ◌&&◌, ◌||◌, get_or, T, leb, ltb, eqb}
use Rattle.std.proofs.Math.Bool.{cond}
use mathlib.Core.List.{List, [], ◌∷◌}
use Rattle.std.proofs.Math.ListN.{length}
use Rattle.std.proofs.lemmas.Bool.{lt-leb}
use Rattle.theory.specs.Answer.{Answer, answer}
use Rattle.theory.specs.RunsTools.{cond_case, ltb_case, T_snd}
use Rattle.leaves_text.specs.NumberText.{number_text, some_digits, digits, is_digit}
use Rattle.leaves_days.specs.Calendar.{is_date, day_number}
use Rattle.leaves_days.specs.Days.{day_of, in_range}
use Rattle.leaves.specs.Refusal.{refused}
use Rattle.leaves.specs.declared.refusal.Refusal.TheVariants.{NoDate}
use Rattle.map_rules.specs.Table.{Outcome, refused_by, stored, if_room}
use Rattle.map_point.specs.declared.entries.Entry.{Entry}
use Rattle.map_point.specs.Points.{rising, all_known, set_entry}
use Rattle.map_point.specs.PointsLaws.{set_rising, set_known}
use Rattle.metadata_rules.specs.declared.Interval.{Interval}
use Rattle.metadata_rules.specs.Metadata.{Fields, Mapping, Metadata}
use Rattle.build_rules.specs.Reading.{Read, fault, value, read_of, text_of, number_in, day_in, is_empty, direction_by, direction_of}
use Rattle.build_rules.specs.declared.reading.Direction.{Direction}
use Rattle.build_rules.specs.declared.reading.Direction.TheVariants.{Forward, Inverse}
use Rattle.build_rules.specs.OverTime.{Step, stop, skip, give, reading, unless_empty, Build, stopped, built, onward}
use Rattle.build_rules.specs.PointInTime.{Counted, undated, none as none_counts, counts, counts_from, counting, point_step, place_of, point_taken, pick_mapping, pick_mappings, outside_query, on_day, asked, point_in_time, number_step, name_step, numbered}

-- ---- which interval counts

module _ (day k : ℕ) (x : Interval) (xs : List Interval) where
  pub counting_bad_start : {c : ℕ} → fault c ≡ day_in x.start → counting day k (x ∷ xs) ≡ undated k
  unfolding counting counts_from
  counting_bad_start e = sym (ap (λ (r : Read ℕ). counts_from day k x r (day_in x.end) (counting day (k + 1) xs)) e)

  module _ {a : ℕ} (e : value a ≡ day_in x.start) where
    started : counts_from day k x (value a) (day_in x.end) (counting day (k + 1) xs) ≡ counting day k (x ∷ xs)
    unfolding counting
    started = ap (λ (r : Read ℕ). counts_from day k x r (day_in x.end) (counting day (k + 1) xs)) e

    pub counting_bad_end : {c : ℕ} → fault c ≡ day_in x.end → counting day k (x ∷ xs) ≡ undated k
    unfolding counts_from
    counting_bad_end f = sym (ap (λ (r : Read ℕ). counts_from day k x (value a) r (counting day (k + 1) xs)) f ∙ started)

    module _ {b : ℕ} (f : value b ≡ day_in x.end) where
      dated : counting day k (x ∷ xs) ≡ cond (leb a day && ltb day b) (counts k x) (counting day (k + 1) xs)
      unfolding counts_from
      dated = sym (ap (λ (r : Read ℕ). counts_from day k x (value a) r (counting day (k + 1) xs)) f ∙ started)

      pub counting_covers : a ≤ day → day < b → counting day k (x ∷ xs) ≡ counts k x
      counting_covers h l = dated ∙ rw (le-leb a day h, lt-ltb day b l) refl

      pub counting_early : day < a → counting day k (x ∷ xs) ≡ counting day (k + 1) xs
      counting_early h = dated ∙ rw (lt-leb a day h) refl

      pub counting_late : a ≤ day → b ≤ day → counting day k (x ∷ xs) ≡ counting day (k + 1) xs
      counting_late h l = dated ∙ rw (le-leb a day h, le-ltb day b l) refl

pub counting_end : (day k : ℕ) → counting day k [] ≡ none_counts
unfolding counting
counting_end day k = refl

-- ---- the step of the interval that counts

module _ (texts : List (List ℕ)) (n : ℕ) where
  text_case : (P : Read (List ℕ) → Type 0) → (n < length texts → P (value (get_or texts n []))) → (length texts ≤ n → P (fault 3)) → P (text_of texts n)
  unfolding text_of
  text_case P = ltb_case P n (length texts) (value (get_or texts n [])) (fault 3)

pub stepped : (texts : List (List ℕ)) (d : Direction) (name k : ℕ) (x : Interval)
    → point_step texts d name (counts k x) ≡ reading (text_of texts x.symbol) (λ symbol. unless_empty symbol (name_step texts d name x.symbol symbol))
unfolding point_step name_step
stepped texts d name k x = refl

-- once the mapping's name is read
pub name_read : (texts : List (List ℕ)) (d : Direction) (name n : ℕ) (symbol : List ℕ) {r : Read (List ℕ)} → r ≡ text_of texts name
    → reading r (number_step d name n symbol) ≡ name_step texts d name n symbol
unfolding name_step
name_read texts d name n symbol e = ap (λ (r : Read (List ℕ)). reading r (number_step d name n symbol)) e

module _ (name n : ℕ) (symbol mapped : List ℕ) where
  pub forward_step_lem : number_step Forward name n symbol mapped ≡ numbered name (number_in symbol)
  unfolding number_step numbered
  forward_step_lem = refl

  pub inverse_step_lem : number_step Inverse name n symbol mapped ≡ numbered n (number_in mapped)
  unfolding number_step numbered
  inverse_step_lem = refl

-- ---- the mappings

module _ (room : ℕ) (texts : List (List ℕ)) (d : Direction) (day : ℕ) where
  pub pick_end : (t : ℕ) (es : List Entry) → pick_mappings room texts d day t [] es ≡ built es
  unfolding pick_mappings
  pick_end t es = refl

  module _ (t : ℕ) (m : Mapping) (ms : List Mapping) (es : List Entry) where
    picked : {o : Outcome Entry} → pick_mapping room texts d day m es ≡ o
        → pick_mappings room texts d day t (m ∷ ms) es ≡ onward t (place_of (counting day 0 m.intervals)) (pick_mappings room texts d day (t + 1) ms) o
    unfolding pick_mappings
    picked e = ap (onward t (place_of (counting day 0 m.intervals)) (pick_mappings room texts d day (t + 1) ms)) e

    pub pick_stored : {out : List Entry} → pick_mapping room texts d day m es ≡ stored out
        → pick_mappings room texts d day t (m ∷ ms) es ≡ pick_mappings room texts d day (t + 1) ms out
    unfolding onward
    pick_stored e = picked e

    pub pick_refused : {c : ℕ} → pick_mapping room texts d day m es ≡ refused_by c
        → pick_mappings room texts d day t (m ∷ ms) es ≡ stopped c t (place_of (counting day 0 m.intervals))
    unfolding onward
    pick_refused e = picked e

  pub pick_is : (m : Mapping) (es : List Entry) {s : Step Entry} → s ≡ point_step texts d m.name (counting day 0 m.intervals)
      → pick_mapping room texts d day m es ≡ point_taken room s es
  unfolding pick_mapping
  pick_is m es e = ap (λ (s : Step Entry). point_taken room s es) (sym e)

module _ (room : ℕ) (es : List Entry) where
  pub taken_stop : (c : ℕ) → point_taken room (stop c) es ≡ refused_by c
  unfolding point_taken
  taken_stop c = refl

  pub taken_skip : point_taken room skip es ≡ stored es
  unfolding point_taken
  taken_skip = refl

  pub taken_set : (e : Entry) → length (set_entry e es) ≤ room → point_taken room (give e) es ≡ stored (set_entry e es)
  unfolding point_taken if_room
  taken_set e h = rw (le-ltb room (length (set_entry e es)) h) refl

  pub taken_full : (e : Entry) → room < length (set_entry e es) → point_taken room (give e) es ≡ refused_by 2
  unfolding point_taken if_room
  taken_full e h = rw (lt-ltb room (length (set_entry e es)) h) refl

-- ---- what a build gives: a sorted table with known symbols that fits its room, or one of the refusals that the rules have for it

unfoldable pub point_refusal : ℕ → Bool
point_refusal c = eqb c 2 || (eqb c 3 || (eqb c 8 || (eqb c 9 || (eqb c 10 || eqb c 11))))

-- each is of an instrument of 32 bits, so that it can be read back from its bytes
abbrev pub AllNarrow : List Entry → Type 0
AllNarrow [] = Unit {0}
AllNarrow (e ∷ es) = (e.instrument < 4294967296) × AllNarrow es

pub record Sorted (room names : ℕ) (es : List Entry) : Type 0 where
  pub sorted : T (rising es)
  pub known : T (all_known names es)
  pub narrow : AllNarrow es
  pub fits : length es ≤ room

abbrev pub Sound : ℕ → ℕ → Build Entry → Type 0
Sound room names (stopped c t k) = T (point_refusal c)
Sound room names (built es) = Sorted room names es

abbrev OutcomeSound : ℕ → ℕ → Outcome Entry → Type 0
OutcomeSound room names (refused_by c) = T (point_refusal c)
OutcomeSound room names (stored es) = Sorted room names es

abbrev StepSound : ℕ → Step Entry → Type 0
StepSound names (stop c) = T (point_refusal c)
StepSound names skip = Unit {0}
StepSound names (give e) = (e.symbol < names) × (e.instrument < 4294967296)

-- a reading that meets no other refusal
abbrev pub Only : {X : Type 0} → ℕ → Read X → Type 0
Only w r = (c : ℕ) → fault c ≡ r → c ≡ w

only_fault : {X : Type 0} (w : ℕ) → Only {X = X} w (fault w)
only_fault w c e = cc

only_value : {X : Type 0} (w : ℕ) (x : X) → Only w (value x)
only_value w x c e = cc

only_cond : {X : Type 0} (w : ℕ) (b : Bool) {x y : Read X} → Only w x → Only w y → Only w (cond b x y)
only_cond w true p q = p
only_cond w false p q = q

abbrev Reads : ℕ → Answer → Type 0
Reads w a = Only w (read_of a)

reads_cond : (w : ℕ) (b : Bool) (x y : Answer) → Reads w x → Reads w y → Reads w (cond b x y)
reads_cond w true x y p q = p
reads_cond w false x y p q = q

reads_done : (w v : ℕ) → Reads w (answer 0 (v ∷ []))
unfolding read_of
reads_done w v = only_value w v

reads_stuck : (place : ℕ) → Reads 8 (answer 8 (place ∷ []))
unfolding read_of
reads_stuck place = only_fault 8

digits_8 : (place v : ℕ) (s : List ℕ) → Reads 8 (digits place v s)
unfolding digits
digits_8 place v [] = reads_done 8 v
digits_8 place v (b ∷ s) = reads_cond 8 (is_digit b && leb (v * 10 + (b - 48)) 4294967295) _ _ (digits_8 (place + 1) (v * 10 + (b - 48)) s) (reads_stuck place)

some_8 : (place : ℕ) (s : List ℕ) → Reads 8 (some_digits place s)
unfolding some_digits
some_8 place [] = reads_stuck place
some_8 place (b ∷ s) = digits_8 place 0 (b ∷ s)

number_8 : (text : List ℕ) → Only 8 (number_in text)
unfolding number_in number_text
number_8 [] = reads_stuck 0
number_8 (b ∷ s) = reads_cond 8 (eqb b 43) (some_digits 1 s) (some_digits 0 (b ∷ s)) (some_8 1 s) (some_8 0 (b ∷ s))

-- a number that was read has 32 bits
abbrev pub Narrow : Read ℕ → Type 0
Narrow (fault c) = Unit {0}
Narrow (value v) = v < 4294967296

digits_narrow : (place v : ℕ) (s : List ℕ) → v < 4294967296 → Narrow (read_of (digits place v s))
unfolding digits read_of
digits_narrow place v [] h = h
digits_narrow place v (b ∷ s) h =
    let w = v * 10 + (b - 48) in
    cond_case (λ (a : Answer). Narrow (read_of a)) (is_digit b && leb w 4294967295) _ _
    (λ t. let l : w ≤ 4294967295 = leb→le w 4294967295 (T_snd (is_digit b) (leb w 4294967295) t) in digits_narrow (place + 1) w s (omega arith)) (λ t. tt)

some_narrow : (place : ℕ) (s : List ℕ) → Narrow (read_of (some_digits place s))
unfolding some_digits read_of
some_narrow place [] = tt
some_narrow place (b ∷ s) = digits_narrow place 0 (b ∷ s) (omega arith)

pub number_narrow : (text : List ℕ) → Narrow (number_in text)
unfolding number_in number_text read_of
number_narrow [] = tt
number_narrow (b ∷ s) = cond_case (λ (a : Answer). Narrow (read_of a)) (eqb b 43) _ _ (λ t. some_narrow 1 s) (λ t. some_narrow 0 (b ∷ s))

pub day_11 : (date : ℕ) → Only 11 (day_in date)
unfolding day_in day_of read_of
day_11 date = reads_cond 11 (is_date date && in_range date) (answer 0 (day_number date ∷ [])) (refused NoDate) (reads_done 11 (day_number date)) (only_fault 11)

direction_9 : (f : Fields) → Only 9 (direction_of f)
unfolding direction_of direction_by
direction_9 f = only_cond 9 (eqb f.stype_out 0) (only_value 9 Forward) (only_cond 9 (eqb f.stype_in 0) (only_value 9 Inverse) (only_fault 9))

numbered_sound : (names v : ℕ) (r : Read ℕ) → v < names → Only 8 r → Narrow r → StepSound names (numbered v r)
unfolding numbered reading point_refusal
numbered_sound names v (fault c) h f g = rw (f c refl) tt
numbered_sound names v (value i) h f g = (h, g)

number_sound : (names : ℕ) (d : Direction) (name n : ℕ) (symbol mapped : List ℕ) → name < names → n < names → StepSound names (number_step d name n symbol mapped)
number_sound names Forward name n symbol mapped h l = rw (forward_step_lem name n symbol mapped) (numbered_sound names name (number_in symbol) h (number_8 symbol) (number_narrow symbol))
number_sound names Inverse name n symbol mapped h l = rw (inverse_step_lem name n symbol mapped) (numbered_sound names n (number_in mapped) l (number_8 mapped) (number_narrow mapped))

module _ (texts : List (List ℕ)) (d : Direction) (name : ℕ) where
  name_sound : (n : ℕ) (symbol : List ℕ) → n < length texts → StepSound (length texts) (name_step texts d name n symbol)
  unfolding name_step reading point_refusal
  name_sound n symbol l =
      text_case texts name (λ r. StepSound (length texts) (reading r (number_step d name n symbol)))
      (λ h. number_sound (length texts) d name n symbol (get_or texts name []) h l) (λ h. tt)

  unless_sound : (text : List ℕ) (s : Step Entry) → StepSound (length texts) s → StepSound (length texts) (unless_empty text s)
  unfolding unless_empty is_empty
  unless_sound [] s h = tt
  unless_sound (b ∷ t) s h = h

  step_sound : (z : Counted) → StepSound (length texts) (point_step texts d name z)
  unfolding point_step point_refusal
  step_sound (undated k) = tt
  step_sound none_counts = tt
  step_sound (counts k x) = rw (stepped texts d name k x) (counted_sound x)
    where
      counted_sound : (x : Interval) → StepSound (length texts) (reading (text_of texts x.symbol) (λ symbol. unless_empty symbol (name_step texts d name x.symbol symbol)))
      counted_sound x =
          text_case texts x.symbol (λ r. StepSound (length texts) (reading r (λ symbol. unless_empty symbol (name_step texts d name x.symbol symbol))))
          (λ h. unless_sound (get_or texts x.symbol []) _ (name_sound x.symbol (get_or texts x.symbol []) h)) (λ h. tt)

set_narrow : (x : Entry) (xs : List Entry) → x.instrument < 4294967296 → AllNarrow xs → AllNarrow (set_entry x xs)
unfolding set_entry
set_narrow x [] h k = (h, tt)
set_narrow x (y ∷ ys) h k =
    ltb_case AllNarrow y.instrument x.instrument _ _ (λ l. (k.0, set_narrow x ys h k.1))
    (λ l. ltb_case AllNarrow x.instrument y.instrument _ _ (λ m. (h, k)) (λ m. (h, k.1)))

module _ (room names : ℕ) (es : List Entry) (w : Sorted room names es) where
  taken_sound : (s : Step Entry) → StepSound names s → OutcomeSound room names (point_taken room s es)
  unfolding point_taken if_room point_refusal
  taken_sound (stop c) h = h
  taken_sound skip h = w
  taken_sound (give e) h =
      ltb_case (OutcomeSound room names) room (length (set_entry e es)) _ _ (λ l. tt)
      (λ l. record {
        sorted = set_rising e es w.sorted;
        known = set_known names e es h.0 w.known;
        narrow = set_narrow e es h.1 w.narrow;
        fits = l;
      })

module _ (room : ℕ) (texts : List (List ℕ)) (d : Direction) (day : ℕ) where
  pick_sound : (ms : List Mapping) (t : ℕ) (es : List Entry) → Sorted room (length texts) es → Sound room (length texts) (pick_mappings room texts d day t ms es)
  unfolding pick_mappings pick_mapping onward
  pick_sound [] t es w = w
  pick_sound (m ∷ ms) t es w =
      go (point_taken room (point_step texts d m.name (counting day 0 m.intervals)) es)
      (taken_sound room (length texts) es w (point_step texts d m.name (counting day 0 m.intervals)) (step_sound texts d m.name (counting day 0 m.intervals)))
      (pick_sound ms (t + 1))
    where
      go : (o : Outcome Entry) → OutcomeSound room (length texts) o
          → ((out : List Entry) → Sorted room (length texts) out → Sound room (length texts) (pick_mappings room texts d day (t + 1) ms out))
          → Sound room (length texts) (onward t (place_of (counting day 0 m.intervals)) (pick_mappings room texts d day (t + 1) ms) o)
      go (refused_by c) h f = h
      go (stored out) h f = f out h

pub point_sound : (room : ℕ) (texts : List (List ℕ)) (m : Metadata) (date : ℕ) → Sound room (length texts) (point_in_time room texts m date)
unfolding point_in_time asked on_day point_refusal rising all_known
point_sound room texts m date = go (day_in date) (day_11 date)
  where
    on : (day : ℕ) (r : Read Direction) → Only 9 r → Sound room (length texts) (on_day room texts m r day)
    on day (fault c) f = rw (f c refl) tt
    on day (value d) f =
        cond_case (Sound room (length texts)) (outside_query m.fields day) _ _ (λ h. tt)
        (λ h. pick_sound room texts d day m.mappings 0 [] (record { sorted = tt; known = tt; narrow = tt; fits = omega arith }))

    go : (r : Read ℕ) → Only 11 r → Sound room (length texts) (asked room texts m r)
    go (fault c) f = rw (f c refl) tt
    go (value day) f = on day (direction_of m.fields) (direction_9 m.fields)
