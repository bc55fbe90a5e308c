-- The machine as the rules tell it, with `last`: whose record the call before handed out. A call reads on there first.
-- It answers as the shorter machine of `Machine` does, where a stream whose record is handed out waits at that record's time.
-- Assumes nothing.
-- What rests on a step of the machine stands in proofs/Literal.
use Rattle.std.specs.Prelude.{◌≡◌, ℕ, zero, suc, ◌+◌, List, [], ◌∷◌, get_or, set}
use Rattle.std.proofs.Math.Path.{refl, ap}
use Rattle.std.proofs.Math.Option.{Option, none, some}
use Rattle.std.proofs.Math.ListN.{length}
use Rattle.leaves.specs.Frame.{Read, whole, ended, damaged}
use Rattle.records_rules.specs.Machine.{rec, Stream, record_at_lem, damage_at}
use Rattle.records_rules.specs.Machine.{Status, waiting, standing, gone, key, First, nobody, first, up, before, least}
use Rattle.records_rules.specs.Machine.{Answer, says, end, Turn, turn, answers_by, until_end, start}
use Rattle.records_rules.specs.Whole.{bytes}

-- a call's answer, and what it leaves: the statuses, and the stream whose record the answer is
pub data Reply : Type 0 where
  reply : Answer → List Status → Option ℕ → Reply

-- a read in the stream p at the place a found this; `go` makes the choice
unfoldable pub read_on : (List Status → Reply) → List Status → ℕ → ℕ → Read → Reply
read_on go ss p a ended = go (set ss p gone)
read_on go ss p a (damaged r) = reply (says p (damage_at a r)) (set ss p gone) none
read_on go ss p a (whole size kind instrument time) = go (set ss p (standing a (rec size kind instrument time)))

-- the choice fell on the stream p, and its status is this: a hint is replaced, and the choice is made again
unfoldable pub take_up : (List Status → Reply) → (ℕ → Stream) → List Status → ℕ → Status → Reply
unfolding read_on
take_up go b ss p (waiting h a) = read_on go ss p a ((b p).read a)
take_up go b ss p (standing a r) = reply (says p (record_at_lem a r)) ss (some p)
take_up go b ss p gone = reply end ss none

unfoldable pub choose_at : (List Status → Reply) → (ℕ → Stream) → List Status → First → Reply
unfolding take_up
choose_at go b ss nobody = reply end ss none
choose_at go b ss (first t p) = take_up go b ss p (get_or ss p gone)

unfoldable pub choose_f : ℕ → (ℕ → Stream) → List Status → Reply
unfolding choose_at least
choose_f zero b ss = reply end ss none
choose_f (suc f) b ss = choose_at (λ ss'. choose_f f b ss') b ss (least ss)

unfoldable pub choose : (ℕ → Stream) → List Status → Reply
unfolding choose_f
choose b ss = choose_f (suc (length ss)) b ss

-- the stream p handed out its record, and its status is still this: it is read on behind the record
unfoldable pub resume : (ℕ → Stream) → List Status → ℕ → Status → Reply
unfolding read_on choose
resume b ss p (standing a r) = read_on (choose b) ss p (a + r.size) ((b p).read (a + r.size))
resume b ss p (waiting h a) = choose b ss
resume b ss p gone = choose b ss

unfoldable pub call : (ℕ → Stream) → List Status → Option ℕ → Reply
unfolding choose resume
call b ss none = choose b ss
call b ss (some p) = resume b ss p (get_or ss p gone)

unfoldable pub answered : Reply → Answer
answered (reply x ss o) = x

unfoldable pub statuses : Reply → List Status
statuses (reply x ss o) = ss

unfoldable pub last : Reply → Option ℕ
last (reply x ss o) = o

-- the answers of f calls one after the other, up to the first end
unfoldable pub calls_f : ℕ → (ℕ → Stream) → List Status → Option ℕ → List Answer
unfolding answers_by until_end call answered statuses last
calls_f f b ss o =
    until_end (answers_by (λ (s : List Status × Option ℕ). answered (call b s.0 s.1))
    (λ (s : List Status × Option ℕ). (statuses (call b s.0 s.1), last (call b s.0 s.1))) f (ss, o))

-- ---- the same as the shorter machine

unfoldable pub handed : Status → Status
handed (standing a r) = waiting r.time (a + r.size)
handed (waiting h a) = waiting h a
handed gone = gone

unfoldable pub view : List Status → Option ℕ → List Status
unfolding handed
view ss none = ss
view ss (some p) = set ss p (handed (get_or ss p gone))

unfoldable pub seen : Reply → Turn
unfolding view
seen (reply x ss o) = turn x (view ss o)

-- the choice goes by the keys alone
pub least_set : (ss : List Status) (p : ℕ) (s : Status) → key s ≡ key (get_or ss p gone) → least (set ss p s) ≡ least ss
unfolding least
least_set [] p s e = refl
least_set (x ∷ ss) zero s e = ap (λ (k : Option ℕ). before k (up (least ss))) e
least_set (x ∷ ss) (suc p) s e = ap (λ (r : First). before (key x) (up r)) (least_set ss p s e)

-- ---- so the theorems hold of the rules' machine

unfoldable pub literal_run : (ℕ → Stream) → List ℕ → List Answer
unfolding calls_f start bytes
literal_run b hs = calls_f (suc (bytes b (length hs))) b (start hs) none
