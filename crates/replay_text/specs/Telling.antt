-- What the functions of `telling` promise, and how one call of the merge after another leads to the whole text. Assumes nothing.
use Rattle.std.proofs.Math.Path.{◌≡◌, refl}
use Rattle.std.proofs.Common.{sym, ap, subst, ◌∙◌, arith, le-leb, eq-eqb}
use Rattle.std.specs.Prelude.{ℕ, zero, suc, ◌-◌, ◌+◌, ◌*◌, ◌≤◌, ◌<◌, List, [], ◌∷◌, length, replicate, Bool, true, false, Option, Some, None, Result, Ok, Err}
use Rattle.std.proofs.Math.Dec.{T}
use Rattle.theory.specs.Answer as theory
use Rattle.records_rules.specs.Machine.{Stream, record_at_lem, damage_at, Status, Answer, says, end, Turn, turn, next, answer, rest, start}
use Rattle.records_rules.specs.Bytes.{streams_of}
use Rattle.records_rules.specs.Kept.{total}
use Rattle.records_rules.specs.View.{tab}
use Rattle.records_rules.specs.State.{answer_of, arrays_fit, right_streams, padded, opening, Arrays, statuses_at}
use Rattle.leaves.specs.Refusal.{reason_number, number_of, refused}
use Rattle.leaves.specs.RefusalLaws.{refused_not_done}
use Rattle.leaves.specs.declared.refusal.Reason.{Reason}
use Rattle.leaves.specs.declared.refusal.Refusal.{Refusal}
use Rattle.leaves.specs.declared.refusal.Refusal.TheVariants.{Damaged}
use Rattle.records_state.specs.declared.state.State.{State}
use Rattle.records_state.specs.Lent.{arrays_of, SameMemory}
use Rattle.records.specs.declared.merge.Record.{Record}
use Rattle.records.specs.Merge.{turn_of, opening_of}
use Rattle.records.specs.Engine.{EngineSays, EngineTurns, EngineOpened, EngineOpens}
use Rattle.lines.specs.Lines.{record_line, damage_line, end_line, Lays}
use Rattle.replay_text.specs.Replay.{line_of, lines_left}
use Rattle.replay_text.specs.ReplayLaws.{left_says, Writing, writing_start, writing_says, writing_end}

-- whether an answer is the last
unfoldable pub last_of : Answer → Bool
last_of (says p y) = false
last_of end = true

-- the line of the answer x is laid, and `last` says whether it is the last
pub record Line (text : List ℕ) (at : ℕ) (x : Answer) (r : ℕ) (last : Bool) (text' : List ℕ) : Type 0 where
  pub lays : Lays text at (line_of x) r text'
  pub short : r ≤ at + 63
  pub ends : last ≡ last_of x

-- ---- an answer of the code that is the machine's

module _ (text : List ℕ) (at r : ℕ) (text' : List ℕ) (short : r ≤ at + 63) where
  pub line_record : (x : Answer) (stream place size kind instrument time : ℕ)
      → theory.answer 0 (stream ∷ place ∷ size ∷ kind ∷ instrument ∷ time ∷ []) ≡ answer_of x
      → Lays text at (record_line stream time instrument) r text' → Line text at x r false text'
  unfolding line_of last_of
  line_record (says p (record_at_lem a c)) stream place size kind instrument time e l =
      let e₁ : stream ≡ p = cc in
      let e₂ : time ≡ c.time = cc in
      let e₃ : instrument ≡ c.instrument = cc in
      record { lays = rw (e₁, e₂, e₃) at l; short = short; ends = refl }
  line_record (says p (damage_at a k)) stream place size kind instrument time e l = let z : ◌≡◌ {A = ℕ} 0 13 = cc in absurd (omega arith)
  line_record end stream place size kind instrument time e l = let z : ◌≡◌ {A = ℕ} 0 1 = cc in absurd (omega arith)

  pub line_end : (x : Answer) → theory.answer 0 [] ≡ answer_of x → Lays text at end_line r text' → Line text at x r true text'
  unfolding line_of last_of
  line_end (says p (record_at_lem a c)) e l = let z : ◌≡◌ {A = ℕ} 0 1 = cc in absurd (omega arith)
  line_end (says p (damage_at a k)) e l = let z : ◌≡◌ {A = ℕ} 0 13 = cc in absurd (omega arith)
  line_end end e l = record { lays = l; short = short; ends = refl }

  pub line_damage : (x : Answer) (stream place reason : ℕ) → theory.answer 13 (stream ∷ place ∷ reason ∷ []) ≡ answer_of x
      → Lays text at (damage_line stream place) r text' → Line text at x r false text'
  unfolding line_of last_of
  line_damage (says p (record_at_lem a c)) stream place reason e l = let z : ◌≡◌ {A = ℕ} 0 13 = cc in absurd (omega arith)
  line_damage (says p (damage_at a k)) stream place reason e l =
      let e₁ : stream ≡ p = cc in
      let e₂ : place ≡ a = cc in
      record { lays = rw (e₁, e₂) at l; short = short; ends = refl }
  line_damage end stream place reason e l = let z : ◌≡◌ {A = ℕ} 0 13 = cc in absurd (omega arith)

-- ---- a call

-- a call's line is laid, and what it leaves is the machine's
pub record Told (sound : ℕ → ℕ → Arrays → Type 0) (b : ℕ → Stream) (n : ℕ) (a : Arrays) (text : List ℕ) (at r : ℕ) (last : Bool) (held : ℕ) (a' : Arrays) (text' : List ℕ) : Type 0 where
  pub line : Line text at (answer (next b (statuses_at n a))) r last text'
  pub leaves : statuses_at n a' ≡ rest (next b (statuses_at n a))
  pub after : sound n held a'

-- the arrays have their 256 places
pub record Places (held : ℕ) (ms ts cs hs hp : List ℕ) : Type 0 where
  pub few : held ≤ 256
  pub marks : length ms ≡ 256
  pub times : length ts ≡ 256
  pub places : length cs ≡ 256
  pub heads : length hs ≡ 256
  pub heap : length hp ≡ 256

pub places_right : {held : ℕ} {ms ts cs hs hp : List ℕ} → Places held ms ts cs hs hp
    → arrays_fit held (length ms) (length ts) (length cs) (length hs) (length hp) ≡ true
unfolding arrays_fit
places_right {held} {ms} {ts} {cs} {hs} {hp} p =
    rw (
      le-leb held 256 p.few,
      eq-eqb (length ms) 256 p.marks,
      eq-eqb (length ts) 256 p.times,
      eq-eqb (length cs) 256 p.places,
      eq-eqb (length hs) 256 p.heads,
      eq-eqb (length hp) 256 p.heap,
    )

-- the same of what the plain engine tests
pub places_plain : {held : ℕ} {ms ts cs hs hp : List ℕ} → Places held ms ts cs hs hp
    → arrays_fit held (length ms) (length ts) (length cs) (length hs) 256 ≡ true
places_plain {held} {ms} {ts} {cs} {hs} {hp} p =
    ap (λ (k : ℕ). arrays_fit held (length ms) (length ts) (length cs) (length hs) k) (sym p.heap) ∙ places_right p

abbrev pub PlacesIn : ℕ → Arrays → Type 0
PlacesIn held a = Places held a.marks a.times a.places a.heads a.heap

-- the state is sound, and the lines to come have room
pub record Ready (sound : ℕ → ℕ → Arrays → Type 0) (b : ℕ → Stream) (n held : ℕ) (a : Arrays) (text : List ℕ) : Type 0 where
  pub places : PlacesIn held a
  pub few : n ≤ 256
  pub is_sound : sound n held a
  pub room : 63 * total b (statuses_at n a) + 63 ≤ length text

-- ---- call after call

module _ {b : ℕ → Stream} {whole text₀ : List ℕ} {ss : List Status} {text : List ℕ} {at : ℕ} (w : Writing b whole text₀ ss text at)
    {r : ℕ} {last : Bool} {text' : List ℕ} (l : Line text at (answer (next b ss)) r last text') where
  -- not the last: less is to come
  pub writing_more : last ≡ false → length text' ≡ length text → Writing b whole text₀ (rest (next b ss)) text' r × (total b (rest (next b ss)) < total b ss)
  unfolding answer rest last_of
  writing_more d k = go (next b ss) refl l
    where
      go : (t : Turn) → next b ss ≡ t → Line text at (answer t) r last text' → Writing b whole text₀ (rest t) text' r × (total b (rest t) < total b ss)
      go (turn (says p y) ss') e m = (writing_says w e m.lays m.short k, omega (arith, (left_says b ss ss' p y e).1))
      go (turn end ss') e m = absurd (subst T (sym m.ends ∙ d) tt)

  -- the last: the whole is written
  pub writing_last : last ≡ true → Lays text₀ 0 whole r text'
  unfolding answer rest last_of line_of
  writing_last d = go (next b ss) refl l
    where
      go : (t : Turn) → next b ss ≡ t → Line text at (answer t) r last text' → Lays text₀ 0 whole r text'
      go (turn (says p y) ss') e m = absurd (subst T (sym d ∙ m.ends) tt)
      go (turn end ss') e m = writing_end w e m.lays

-- the loop: the state is sound, and so much is written
pub record Stepping (sound : ℕ → ℕ → Arrays → Type 0) (b : ℕ → Stream) (n : ℕ) (whole text₀ : List ℕ) (size : ℕ) (a : Arrays) (text : List ℕ) (at : ℕ) : Type 0 where
  pub places : PlacesIn size a
  pub is_sound : sound n size a
  pub writing : Writing b whole text₀ (statuses_at n a) text at

pub stepping_start : {sound : ℕ → ℕ → Arrays → Type 0} {b : ℕ → Stream} {n held : ℕ} {a : Arrays} {text : List ℕ} → Ready sound b n held a text
    → Stepping sound b n (lines_left b (statuses_at n a)) text held a text 0
stepping_start {sound} {b} {n} {held} {a} {text} r =
    record { places = r.places; is_sound = r.is_sound; writing = writing_start b text (statuses_at n a) r.room }

module _ {sound : ℕ → ℕ → Arrays → Type 0} {b : ℕ → Stream} {n : ℕ} {whole text₀ : List ℕ} {size : ℕ} {a : Arrays} {text : List ℕ} {at : ℕ}
    (s : Stepping sound b n whole text₀ size a text at) {r : ℕ} {last : Bool} {held : ℕ} {a' : Arrays} {text' : List ℕ}
    (t : Told sound b n a text at r last held a' text') where
  pub stepping_more : last ≡ false → length text' ≡ length text → PlacesIn held a'
      → Stepping sound b n whole text₀ held a' text' r × (total b (statuses_at n a') < total b (statuses_at n a))
  stepping_more d k p =
      let w = writing_more s.writing t.line d k in (
        record { places = p; is_sound = t.after; writing = rw t.leaves w.0 },
        rw t.leaves w.1,
      )

  pub stepping_last : last ≡ true → Lays text₀ 0 whole r text'
  stepping_last d = writing_last s.writing t.line d

-- the same memory, of which no more is held, has its places
pub places_kept : {s s' : State} → PlacesIn s.held (arrays_of s) → s'.held ≤ s.held → SameMemory s s' → PlacesIn s'.held (arrays_of s')
places_kept p h k = record {
  few = omega (arith, p.few);
  marks = k.marks.long ∙ p.marks;
  times = k.times.long ∙ p.times;
  places = k.places.long ∙ p.places;
  heads = k.heads.long ∙ p.heads;
  heap = k.heap.long ∙ p.heap;
}

-- a refusal that is no damage is no answer of the machine
no_damage : (r : Refusal) → ((p a : ℕ) (c : Reason) → r ≡ Damaged p a c → ⊥) → number_of r ≡ 13 → ⊥
no_damage (Damaged p a c) o e = o p a c refl
no_damage _ o e = absurd (omega arith)

no_answer : (x : Answer) (r : Refusal) → ((p a : ℕ) (c : Reason) → r ≡ Damaged p a c → ⊥) → refused r ≡ answer_of x → ⊥
no_answer (says p (record_at_lem a c)) r o e = refused_not_done r (cc)
no_answer (says p (damage_at a k)) r o e = no_damage r o (cc)
no_answer end r o e = refused_not_done r (cc)

-- a call of an engine, and the line that is laid of its answer
module _ {sound : ℕ → ℕ → Arrays → Type 0} {b : ℕ → Stream} {n : ℕ} {whole text₀ : List ℕ} {s s' : State} {text : List ℕ} {at : ℕ}
    (w : Stepping sound b n whole text₀ s.held (arrays_of s) text at) (few : n ≤ 256) (k : SameMemory s s') (y : Result (Option Record) Refusal)
    (t : EngineTurns sound b s.held (arrays_of s) (turn_of y) s'.held (arrays_of s')) where
  said : EngineSays sound b n (arrays_of s) (turn_of y) s'.held (arrays_of s')
  said = t.says (places_right w.places) n few w.is_sound

  told : {r : ℕ} {last : Bool} {text' : List ℕ} → Line text at (answer (next b (statuses_at n (arrays_of s)))) r last text'
      → Told sound b n (arrays_of s) text at r last s'.held (arrays_of s') text'
  told l = record { line = l; leaves = said.leaves; after = said.after }

  module _ {r : ℕ} {text' : List ℕ} (h : r ≤ at + 63) (z : length text' ≡ length text) where
    more : Line text at (answer (next b (statuses_at n (arrays_of s)))) r false text'
        → Stepping sound b n whole text₀ s'.held (arrays_of s') text' r
        × (total b (statuses_at n (arrays_of s')) < total b (statuses_at n (arrays_of s)))
    more l = stepping_more w (told l) refl z (places_kept w.places t.fewer k)

    pub told_record : (v : Record) → y ≡ Ok (Some v) → Lays text at (record_line v.stream v.time v.instrument) r text'
        → Stepping sound b n whole text₀ s'.held (arrays_of s') text' r
        × (total b (statuses_at n (arrays_of s')) < total b (statuses_at n (arrays_of s)))
    told_record v e l =
        more (line_record text at r text' h _ v.stream v.place v.length v.kind v.instrument v.time (sym (ap turn_of e) ∙ said.heard) l)

    pub told_damage : (stream place : ℕ) (c : Reason) → y ≡ Err (Damaged stream place c) → Lays text at (damage_line stream place) r text'
        → Stepping sound b n whole text₀ s'.held (arrays_of s') text' r
        × (total b (statuses_at n (arrays_of s')) < total b (statuses_at n (arrays_of s)))
    told_damage stream place c e l =
        more (line_damage text at r text' h _ stream place (reason_number c) (sym (ap turn_of e) ∙ said.heard) l)

  pub told_end : {r : ℕ} {text' : List ℕ} → r ≤ at + 63 → y ≡ Ok None → Lays text at end_line r text' → Lays text₀ 0 whole r text'
  told_end {r} {text'} h e l = stepping_last w (told (line_end text at r text' h _ (sym (ap turn_of e) ∙ said.heard) l)) refl

  pub told_never : (r : Refusal) → ((p a : ℕ) (c : Reason) → r ≡ Damaged p a c → ⊥) → y ≡ Err r → ⊥
  told_never r o e = no_answer _ r o (sym (ap turn_of e) ∙ said.heard)

-- ---- an opening

-- right cuts, and room for the text of the streams between them
pub record Cut (buffer cuts text : List ℕ) : Type 0 where
  pub right : right_streams (length buffer) cuts 0 ≡ true
  pub few : length cuts ≤ 257
  pub room : 63 * total (streams_of buffer cuts) (start (replicate (length cuts - 1) 0)) + 63 ≤ length text

no_hints : (n : ℕ) → padded n [] ≡ replicate n 0
unfolding padded tab
no_hints zero = refl
no_hints (suc n) = ap (λ (r : List ℕ). 0 ∷ r) (no_hints n)

module _ {sound : ℕ → ℕ → Arrays → Type 0} {buffer cuts text : List ℕ} (m : Cut buffer cuts text) {s s' : State} (k : SameMemory s s')
    (p : PlacesIn 0 (arrays_of s)) (y : Result ℕ Refusal) (o : EngineOpens sound buffer cuts [] (arrays_of s) (opening_of s'.held y) (arrays_of s')) where
  -- the opening is done
  done : opening_of s'.held y ≡ theory.answer 0 ((length cuts - 1) ∷ (length cuts - 1) ∷ [])
  unfolding opening
  done = o.answers (places_right p) ∙ rw (places_right p, m.right)

  pub opening_done : (r : Refusal) → y ≡ Err r → ⊥
  opening_done r e = let d = sym (ap (opening_of s'.held) e) ∙ done in refused_not_done r (cc)

  held_all : {n : ℕ} → y ≡ Ok n → s'.held ≡ length cuts - 1
  held_all e = let d = sym (ap (opening_of s'.held) e) ∙ done in cc

  opened : EngineOpened sound (length cuts - 1) [] (arrays_of s')
  opened = o.opened (places_right p) m.right

  -- and what it leaves is ready to be stepped through, from the machine's start
  pub opened_starts : statuses_at (length cuts - 1) (arrays_of s') ≡ start (replicate (length cuts - 1) 0)
  opened_starts = opened.starts ∙ ap start (no_hints (length cuts - 1))

  pub opened_ready : {n : ℕ} → y ≡ Ok n → Ready sound (streams_of buffer cuts) (length cuts - 1) s'.held (arrays_of s') text
  opened_ready e =
      rw (held_all e) (record {
        places = record {
          few = omega (arith, m.few);
          marks = k.marks.long ∙ p.marks;
          times = k.times.long ∙ p.times;
          places = k.places.long ∙ p.places;
          heads = k.heads.long ∙ p.heads;
          heap = k.heap.long ∙ p.heap;
        };
        few = omega (arith, m.few);
        is_sound = opened.after;
        room = rw opened_starts m.room;
      })
