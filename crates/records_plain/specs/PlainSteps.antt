-- The ways a turn of the plain engine's loop goes: the laws of the heap engine's turns (`StateLaws`) ask only who is chosen, so all of
-- them serve. Assumes nothing.
use Rattle.std.specs.Prelude.{◌≡◌, refl, ◌≢◌, ℕ, ◌+◌, ◌-◌, ◌%◌, ◌≤◌, ◌<◌, ◌^◌, Bool, true, false, ◌&&◌, eqb, leb, List, length, get_or, set, replicate}
use Rattle.std.proofs.Common.{sym, ap, ◌∙◌, arith, length-set, eqb-true}
use Rattle.theory.specs.Answer.{Answer}
use Rattle.theory.specs.Bools.{and_right}
use Rattle.leaves.specs.Frame.{ended, damaged}
use Rattle.leaves.specs.Refusal.{number_of, refused}
use Rattle.leaves.specs.RefusalLaws.{refused_not_done}
use Rattle.leaves.specs.declared.refusal.Refusal.{Refusal}
use Rattle.records_rules.specs.Machine.{Stream, says, end, record_at_lem, damage_at, turn}
use Rattle.records_rules.specs.Machine as machine
use Rattle.records_rules.specs.View.{rec_in, statuses_of}
use Rattle.records_rules.specs.Holds.{Chosen}
use Rattle.records_rules.specs.State.{answer_of, stood, Small, Room, Arrays, arrays, arrays_fit, fit_in, right_streams, opening, OpenSays}
use Rattle.records_rules.specs.StateLaws.{small_set, small_move}
use Rattle.records_rules.proofs.StateLaws.{law_end, law_record, law_ended, law_damaged, law_whole, law_small}
use Rattle.records_rules.specs.Opening.{arrays_room}
use Rattle.records.specs.Engine.{EngineOpens}
use Rattle.records_plain.specs.Plain.{plain_fits, PlainUntouched, PlainRoom, PlainSays, PlainOpens}

-- the loop's invariant: the arrays keep their lengths, places behind records fit where they did at entry, and the machine goes on from
-- here as from the entry
pub record Scanning (b : ℕ → Stream) (n : ℕ) (ms₀ ts₀ cs₀ hs₀ ms ts cs hs : List ℕ) : Type 0 where
  pub marks : length ms ≡ length ms₀
  pub times : length ts ≡ length ts₀
  pub places : length cs ≡ length cs₀
  pub heads : length hs ≡ length hs₀
  pub small : Small n cs₀ hs₀ → Small n cs hs
  pub same : machine.next b (statuses_of n ms ts cs hs) ≡ machine.next b (statuses_of n ms₀ ts₀ cs₀ hs₀)

pub scanning_start : (b : ℕ → Stream) (n : ℕ) (ms ts cs hs : List ℕ) → Scanning b n ms ts cs hs ms ts cs hs
scanning_start b n ms ts cs hs = record { marks = refl; times = refl; places = refl; heads = refl; small = λ k. k; same = refl }

-- what a return has to show
abbrev pub Done : (b : ℕ → Stream) (n : ℕ) (ms₀ ts₀ cs₀ hs₀ : List ℕ) (x : Answer) (ms ts cs hs : List ℕ) → Type 0
Done b n ms₀ ts₀ cs₀ hs₀ x ms ts cs hs = Small n cs₀ hs₀ → PlainSays b n ms₀ ts₀ cs₀ hs₀ x ms ts cs hs

-- the machine's turn is this: so are its answer and what it leaves
heard_by : {b : ℕ → Stream} {n : ℕ} {ms₀ ts₀ cs₀ hs₀ ms ts cs hs : List ℕ} (y : machine.Answer)
    → machine.next b (statuses_of n ms₀ ts₀ cs₀ hs₀) ≡ turn y (statuses_of n ms ts cs hs)
    → Small n cs hs → PlainSays b n ms₀ ts₀ cs₀ hs₀ (answer_of y) ms ts cs hs
unfolding machine.answer machine.rest
heard_by y e k =
    record { heard = ap (λ (r : machine.Turn). answer_of (machine.answer r)) (sym e); leaves = ap machine.rest (sym e); small = k }

module _ {b : ℕ → Stream} {n : ℕ} {ms₀ ts₀ cs₀ hs₀ ms ts cs hs : List ℕ}
    (g : Scanning b n ms₀ ts₀ cs₀ hs₀ ms ts cs hs) (room : PlainRoom n ms₀ ts₀ cs₀ hs₀) {p : ℕ} (ch : Chosen n ms ts p) where
  long : (n ≤ length ms) × (n ≤ length ts) × (n ≤ length cs) × (n ≤ length hs)
  long = (omega (arith, room, g.marks), omega (arith, room, g.times), omega (arith, room, g.places), omega (arith, room, g.heads))

  -- all are gone
  pub turn_end : p ≡ n → Done b n ms₀ ts₀ cs₀ hs₀ (answer_of end) ms ts cs hs
  turn_end e k = heard_by end (sym g.same ∙ law_end b n ms ts cs hs p ch (omega arith)) (g.small k)

  module _ (ne : p ≢ n) where
    lt : p < n
    lt = omega (arith, ch.within, ne)

    -- the least stands at a record
    pub turn_record : get_or ms p 0 ≢ 1 → (a : ℕ) → (get_or cs p 0 + get_or hs p 0 % 65536 < 2 ^ 64 → a ≡ get_or cs p 0 + get_or hs p 0 % 65536)
        → Done b n ms₀ ts₀ cs₀ hs₀ (answer_of (says p (record_at_lem (get_or cs p 0) (rec_in (get_or hs p 0) (get_or ts p 0)))))
        (set ms p 1) ts (set cs p a) (set hs p 0)
    turn_record d a f k =
        let small = g.small k in
        let fit : get_or cs p 0 + get_or hs p 0 % 65536 < 2 ^ 64 = small p lt in
        let in_places : p < length cs = omega (arith, lt, long.2) in
        let in_heads : p < length hs = omega (arith, lt, long.3) in
        rw (f fit) (heard_by (says p (record_at_lem (get_or cs p 0) (rec_in (get_or hs p 0) (get_or ts p 0))))
        (sym g.same ∙ law_record b n ms ts cs hs p ch lt long d)
        (small_move n cs hs p (get_or cs p 0 + get_or hs p 0 % 65536) in_places in_heads small fit))

    module _ (w : get_or ms p 0 ≡ 1) where
      -- its stream has ended
      pub turn_ended : ended ≡ (b p).read (get_or cs p 0) → Scanning b n ms₀ ts₀ cs₀ hs₀ (set ms p 0) ts cs hs
      turn_ended got =
          record {
            marks = length-set ms p 0 ∙ g.marks;
            times = g.times;
            places = g.places;
            heads = g.heads;
            small = g.small;
            same = law_ended b n ms ts cs hs p ch lt long w got ∙ g.same;
          }

      -- it is damaged
      pub turn_damaged : (k : ℕ) → damaged k ≡ (b p).read (get_or cs p 0) → Done b n ms₀ ts₀ cs₀ hs₀ (answer_of (says p (damage_at (get_or cs p 0) k))) (set ms p 0) ts cs hs
      turn_damaged k got z =
          heard_by (says p (damage_at (get_or cs p 0) k))
          (sym g.same ∙ law_damaged b n ms ts cs hs p ch lt long w k got)
          (g.small z)

      -- it stands at a record now
      pub turn_whole : (t l : ℕ) → stood t l ≡ (b p).read (get_or cs p 0) → (b p).size < 2 ^ 64 → Scanning b n ms₀ ts₀ cs₀ hs₀ (set ms p 2) (set ts p t) cs (set hs p l)
      turn_whole t l got hb =
          let fits : get_or cs p 0 + l % 65536 ≤ (b p).size = law_small b n ms ts cs hs p ch lt long w t l got in
          let in_heads : p < length hs = omega (arith, lt, long.3) in
          record {
            marks = length-set ms p 2 ∙ g.marks;
            times = length-set ts p t ∙ g.times;
            places = g.places;
            heads = length-set hs p l ∙ g.heads;
            small = λ z. small_set n cs hs p l in_heads (g.small z) (omega arith);
            same = law_whole b n ms ts cs hs p ch lt long w t l got ∙ g.same;
          }

-- ---- the test of what is lent, and the opening

pub plain_room : (n : ℕ) (ms ts cs hs : List ℕ) → plain_fits n ms ts cs hs ≡ true → PlainRoom n ms ts cs hs
plain_room n ms ts cs hs e =
    let r : Room n ms ts cs hs (replicate 256 0) = arrays_room n ms ts cs hs (replicate 256 0) e in
    (r.0, r.1, r.2, r.3, r.4)

-- the heap engine's opening, on a heap of its own that has 256 places
pub plain_opens : {buffer cuts hints ms ts cs hs hp : List ℕ} {x : Answer} {ms' ts' cs' hs' hp' : List ℕ} → 256 ≡ length hp
    → OpenSays buffer cuts hints (arrays ms ts cs hs hp) x (arrays ms' ts' cs' hs' hp') → PlainOpens buffer cuts hints ms ts cs hs x ms' ts' cs' hs'
plain_opens long told =
    record {
      answers = rw long told.answers;
      refused = λ e.
          let u = told.refused (rw (sym long) e) in
          record {
            marks = ap (λ (a : Arrays). a.marks) u;
            times = ap (λ (a : Arrays). a.times) u;
            places = ap (λ (a : Arrays). a.places) u;
            heads = ap (λ (a : Arrays). a.heads) u;
          };
      opened = λ e.
          let o = told.opened (rw (sym long) e) in
          record {
            starts = o.starts;
            small = o.sound.small;
            places = o.places;
            unused = λ q h l. ((o.unused q h l).0, (o.unused q h l).1);
          };
    }

-- ---- the opening as an engine's

-- where all five arrays are right, the four of the streams are
pub four_fit : (held m t c h p : ℕ) → arrays_fit held m t c h p ≡ true → arrays_fit held m t c h 256 ≡ true
unfolding arrays_fit
four_fit held m t c h p e =
    let heap : eqb p 256 ≡ true =
    and_right (eqb h 256) _ (and_right (eqb c 256) _ (and_right (eqb t 256) _ (and_right (eqb m 256) _ (and_right (leb held 256) _ e)))) in
    let long : p ≡ 256 = eqb-true p 256 heap in
    rw long at e

-- what it promises is what an engine's opening does
pub plain_engine_opens : {buffer cuts hints : List ℕ} {a a' : Arrays} {x : Answer}
    → PlainOpens buffer cuts hints a.marks a.times a.places a.heads x a'.marks a'.times a'.places a'.heads
    → EngineOpens (λ n held (s : Arrays). (held ≡ n) × Small n s.places s.heads) buffer cuts hints a x a'
plain_engine_opens {buffer} {cuts} {hints} {a} told =
    let right = right_streams (length buffer) cuts (length hints) in
    let four : fit_in 0 a ≡ true → plain_fits 0 a.marks a.times a.places a.heads ≡ true = four_fit _ _ _ _ _ _ in
    record {
      answers = λ e. told.answers ∙ ap (λ (b : Bool). opening b right (length cuts - 1)) (four e ∙ sym e);
      opened = λ e r. let o = told.opened (rw (four e, r) refl) in record { starts = o.starts; after = (refl, o.small) };
    }

refused_by : (m s : Bool) (n : ℕ) (r : Refusal) → refused r ≡ opening m s n → (m && s) ≡ false
unfolding opening
refused_by true true n r e = let z : number_of r ≡ 0 = cc in absurd (refused_not_done r z)
refused_by true false n r e = refl
refused_by false s n r e = refl

-- where it is refused, the four arrays are as at entry
pub plain_refused : {buffer cuts hints ms ts cs hs : List ℕ} {ms' ts' cs' hs' : List ℕ} (r : Refusal)
    → PlainOpens buffer cuts hints ms ts cs hs (refused r) ms' ts' cs' hs' → PlainUntouched ms ts cs hs ms' ts' cs' hs'
plain_refused r told = told.refused (refused_by _ _ _ r told.answers)
