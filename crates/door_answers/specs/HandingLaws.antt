-- What the lent numbers of a record and of damage hold, of a done call and of a refusal. Assumes nothing.
use Rattle.std.specs.Prelude.{ℕ, ◌+◌, ◌≡◌, List, get_or}
use Rattle.theory.specs.Answer.{Answer, answer}
use Rattle.leaves.specs.Refusal.{number_of, refused}
use Rattle.leaves.specs.declared.refusal.Refusal.{Refusal}
use Rattle.door_answers.specs.Answers.{damage_in}
use Rattle.door_answers.specs.AnswersLaws.{done_number, done_value, done_damage, done_either, not_number, not_value, not_damage, not_either}
use Rattle.door_answers.specs.Handing.{RecordNumbers, record_numbers, RecordHanded}

module _ {a : Answer} (k : ℕ) (o : RecordNumbers) where
  pub record_done : (vs : List ℕ) → answer 0 vs ≡ a
      → RecordHanded k a 0 o (record_numbers (get_or vs 0 0) (get_or vs 1 0) (get_or vs k 0) (get_or vs (k + 1) 0) (get_or vs (k + 2) 0) (get_or vs (k + 3) 0) o.reason)
  record_done vs e = record {
    returns = done_number e;
    streams = done_either o.stream 0 e;
    places = done_either o.place 1 e;
    lengths = done_value o.long k e;
    kinds = done_value o.kind (k + 1) e;
    instruments = done_value o.instrument (k + 2) e;
    times = done_value o.time (k + 3) e;
    reasons = done_damage o.reason 2 e;
  }

  pub record_not : (r : Refusal) {n s p q : ℕ} → n ≡ number_of r → s ≡ damage_in o.stream 0 (refused r) → p ≡ damage_in o.place 1 (refused r)
      → q ≡ damage_in o.reason 2 (refused r) → refused r ≡ a
      → RecordHanded k a n o (record_numbers s p o.long o.kind o.instrument o.time q)
  record_not r f g h i e = record {
    returns = not_number r f e;
    streams = not_either r o.stream 0 g e;
    places = not_either r o.place 1 h e;
    lengths = not_value r o.long k e;
    kinds = not_value r o.kind (k + 1) e;
    instruments = not_value r o.instrument (k + 2) e;
    times = not_value r o.time (k + 3) e;
    reasons = not_damage r o.reason 2 i e;
  }
