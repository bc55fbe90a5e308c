-- What is kept of streams that arrive in portions, and the calls on it: a portion, the word that a stream has ended, and the next answer
-- (RULES, Requests, No. 5). Assumes nothing.
use Rattle.std.specs.Prelude.{◌≡◌, ◌≢◌, ℕ, ◌+◌, ◌-◌, ◌*◌, ◌≤◌, ◌^◌, min, Bool, true, false, cond, ◌||◌, List, [], ◌∷◌, ◌++◌, length, get_or, take, drop, eqb, ltb}
use Rattle.std.proofs.Math.Option.{Option, none}
use Rattle.theory.specs.Answer.{Answer, answer}
use Rattle.leaves.specs.Frame.{Read}
use Rattle.records_rules.specs.Machine.{record_at_lem, damage_at, Status, waiting, standing, gone, says, end, start}
use Rattle.records_rules.specs.Machine as machine
use Rattle.records_rules.specs.State.{padded}
use Rattle.feed_rules.specs.Partial.{part, known_at, Turn⁺, replies, needs, next⁺, rest⁺}

-- ---- what is kept

-- of a stream: where its first byte stands in the window and in the stream, the bytes, and whether the stream has been ended
pub record Kept : Type 0 where
  pub at : ℕ
  pub base : ℕ
  pub bytes : List ℕ
  pub over : Bool

-- what a read at the place of the stream finds; what was dropped is not known any more
unfoldable pub known_in : Kept → ℕ → Option Read
unfolding known_at
known_in x a = cond (ltb a x.base) none (known_at (part x.bytes x.over) (a - x.base))

-- it from the place a of the stream on
unfoldable pub from : ℕ → Kept → Kept
from a x = record { at = x.at + (a - x.base); base = a; bytes = drop (a - x.base) x.bytes; over = x.over }

-- of all streams, with their statuses
pub record Feed : Type 0 where
  pub statuses : List Status
  pub kept : ℕ → Kept

abbrev pub known : Feed → ℕ → ℕ → Option Read
known F p a = known_in (F.kept p) a

-- the kept of the stream p is x now
unfoldable pub put : ℕ → Kept → (ℕ → Kept) → ℕ → Kept
put p x kept q = cond (eqb q p) x (kept q)

-- opened: n streams wait at their hints, and nothing of them has come
unfoldable pub opened : ℕ → List ℕ → Feed
opened n hints = record { statuses = start (padded n hints); kept = λ p. record { at = 1024 * p; base = 0; bytes = []; over = false } }

-- ---- a portion, and the word that a stream has ended

unfoldable pub is_gone : Status → Bool
is_gone (waiting t a) = false
is_gone (standing a r) = false
is_gone gone = true

-- "a stream that is ended, closed or not there"
unfoldable pub closed : Feed → ℕ → Bool
unfolding is_gone
closed F p = is_gone (get_or F.statuses p gone) || (F.kept p).over

-- "at most 1,024 bytes per stream are held, and a stream takes at most 2^63 in all; a portion is taken as far as they fit"
unfoldable pub taking : ℕ → Kept → ℕ
taking size x = min size (min (1024 - length x.bytes) (2 ^ 63 - (x.base + length x.bytes)))

-- the bytes stand at the front of the window of the stream p, then what is taken of the portion
unfoldable pub grow : ℕ → List ℕ → Kept → Kept
unfolding taking
grow p xs x = record { at = 1024 * p; base = x.base; bytes = x.bytes ++ take (taking (length xs) x) xs; over = x.over }

unfoldable pub shut : Kept → Kept
shut x = record { at = x.at; base = x.base; bytes = x.bytes; over = true }

-- a portion of the stream p: done with how many of its bytes were taken, or 12
unfoldable pub add_answer : Feed → ℕ → List ℕ → Answer
unfolding closed taking
add_answer F p xs = cond (closed F p) (answer 12 []) (answer 0 (taking (length xs) (F.kept p) ∷ []))

unfoldable pub add_leaves : Feed → ℕ → List ℕ → Feed
unfolding closed grow put
add_leaves F p xs = cond (closed F p) F (record { statuses = F.statuses; kept = put p (grow p xs (F.kept p)) F.kept })

-- the stream p has ended: done, or 12
unfoldable pub end_answer : Feed → ℕ → Answer
unfolding closed
end_answer F p = cond (closed F p) (answer 12 []) (answer 0 [])

unfoldable pub end_leaves : Feed → ℕ → Feed
unfolding closed shut put
end_leaves F p = cond (closed F p) F (record { statuses = F.statuses; kept = put p (shut (F.kept p)) F.kept })

-- ---- the next answer

-- the length of the record of the stream q that the turn hands out: "a record counts until the call after it is handed out"
unfoldable pub counted : ℕ → Turn⁺ → ℕ
counted q (replies (says p (record_at_lem a r)) ss) = cond (eqb q p) r.size 0
counted q (replies (says p (damage_at a reason)) ss) = 0
counted q (replies end ss) = 0
counted q (needs p ss) = 0

-- what is kept of a stream of this status, from its place on; where c bytes before the place still count, from there on
unfoldable pub kept_by : ℕ → Status → Kept → Kept
unfolding from
kept_by c (waiting t a) x = from (a - c) x
kept_by c (standing a r) x = from a x
kept_by c gone x = x

abbrev pub turn_in : Feed → Turn⁺
turn_in F = next⁺ (known F) F.statuses

unfoldable pub turn_leaves : Feed → Turn⁺ → Feed
unfolding counted kept_by rest⁺
turn_leaves F r = record { statuses = rest⁺ r; kept = λ q. kept_by (counted q r) (get_or (rest⁺ r) q gone) (F.kept q) }

unfoldable pub next_leaves : Feed → Feed
unfolding turn_leaves
next_leaves F = turn_leaves F (turn_in F)

-- the turn in the rules' numbers: a record is done, with stream, place, where it stands in the window, length, kind, instrument and time;
-- the end is done; damage is 13, with stream, place and reason; "need more" is done, with the stream
unfoldable pub turn_answer : (ℕ → Kept) → Turn⁺ → Answer
turn_answer x (replies (says p (record_at_lem a r)) ss) = answer 0 (p ∷ a ∷ (x p).at ∷ r.size ∷ r.kind ∷ r.instrument ∷ r.time ∷ [])
turn_answer x (replies (says p (damage_at a reason)) ss) = answer 13 (p ∷ a ∷ reason ∷ [])
turn_answer x (replies end ss) = answer 0 []
turn_answer x (needs p ss) = answer 0 (p ∷ [])

unfoldable pub next_answer : Feed → Answer
unfolding turn_answer next_leaves
next_answer F = turn_answer (next_leaves F).kept (turn_in F)

-- ---- calls one after the other

pub data Call : Type 0 where
  portion : ℕ → List ℕ → Call  -- stream, bytes
  word : ℕ → Call  -- stream
  call : Call

unfoldable pub answer_to : Feed → Call → Answer
unfolding add_answer end_answer next_answer
answer_to F (portion p xs) = add_answer F p xs
answer_to F (word p) = end_answer F p
answer_to F call = next_answer F

unfoldable pub leaves : Feed → Call → Feed
unfolding add_leaves end_leaves next_leaves
leaves F (portion p xs) = add_leaves F p xs
leaves F (word p) = end_leaves F p
leaves F call = next_leaves F

unfoldable pub answers_to : Feed → List Call → List Answer
unfolding answer_to leaves
answers_to F [] = []
answers_to F (c ∷ cs) = answer_to F c ∷ answers_to (leaves F c) cs

unfoldable pub lastly : Feed → List Call → Feed
unfolding leaves
lastly F [] = F
lastly F (c ∷ cs) = lastly (leaves F c) cs

-- what the calls for the next answer said, the "need more" answers struck out
unfoldable pub told : Turn⁺ → List machine.Answer → List machine.Answer
told (replies x ss) xs = x ∷ xs
told (needs p ss) xs = xs

unfoldable pub heard_at : Feed → Call → List machine.Answer → List machine.Answer
unfolding told
heard_at F (portion p ys) xs = xs
heard_at F (word p) xs = xs
heard_at F call xs = told (turn_in F) xs

unfoldable pub heard : Feed → List Call → List machine.Answer
unfolding heard_at leaves
heard F [] = []
heard F (c ∷ cs) = heard_at F c (heard (leaves F c) cs)

-- the bytes of the stream p that the calls took
unfoldable pub took_at : ℕ → Feed → Call → List ℕ
unfolding closed taking
took_at p F (portion q xs) = cond (eqb p q) (cond (closed F q) [] (take (taking (length xs) (F.kept q)) xs)) []
took_at p F (word q) = []
took_at p F call = []

unfoldable pub taken : ℕ → Feed → List Call → List ℕ
unfolding took_at leaves
taken p F [] = []
taken p F (c ∷ cs) = took_at p F c ++ taken p (leaves F c) cs

-- ---- soundness, and states that answer alike

-- the place of a stream lies in what is kept, and so does the record it stands at
abbrev pub In : Kept → Status → Type 0
In x (waiting t a) = (x.base ≤ a) × (a ≤ x.base + length x.bytes)
In x (standing a r) = (x.base ≤ a) × (a + r.size ≤ x.base + length x.bytes)
In x gone = Unit {0}

abbrev pub Within : (ℕ → Kept) → List Status → Type 0
Within kept ss = (p : ℕ) → In (kept p) (get_or ss p gone)

-- equal statuses, and equal kept bytes of every stream that is not gone
pub record Alike (F G : Feed) : Type 0 where
  pub statuses : F.statuses ≡ G.statuses
  pub kept : (p : ℕ) → get_or G.statuses p gone ≢ gone → F.kept p ≡ G.kept p
