-- The traps of portions by computation: streams that arrive in portions, calls, and what they answer.
use Rattle.std.specs.Prelude.{◌≡◌, refl, ℕ, zero, suc, ◌-◌, ◌^◌, false, List, [], ◌∷◌, ◌++◌, replicate, take, drop}
use Rattle.theory.specs.Answer.{Answer, answer}
use Rattle.theory.specs.Fields.{field}
use Rattle.leaves.specs.Frame.{frame_at}
use Rattle.records_rules.specs.Machine.{waiting, gone, least, start, after_read, says, damage_at, end, until_end}
use Rattle.records_rules.specs.Machine as machine
use Rattle.records_rules.specs.Examples.{short, out as whole}
use Rattle.records_rules.specs.State.{padded}
use Rattle.feed_rules.specs.Partial.{next⁺}
use Rattle.feed_rules.specs.Windows.{Call, portion, word, call, known_in, opened, answers_to, lastly, heard}

-- a record's first 16 bytes of the whole length low + 256 * high, at the time t below 256
unfoldable pub begun : ℕ → ℕ → ℕ → List ℕ
begun low high t = low ∷ high ∷ 1 ∷ 0 ∷ 7 ∷ 0 ∷ 0 ∷ 0 ∷ t ∷ 0 ∷ 0 ∷ 0 ∷ 0 ∷ 0 ∷ 0 ∷ 0 ∷ []

-- a record of 1,024 bytes
unfoldable pub longest : ℕ → List ℕ
unfolding begun
longest t = begun 0 4 t ++ replicate 1008 9

-- so many records of 16 bytes
unfoldable pub shorts : ℕ → List ℕ
unfolding short
shorts zero = []
shorts (suc n) = short 1 ++ shorts n

-- need more of the stream p; so many bytes are taken; the end, or the word is taken; 12
unfoldable pub need : ℕ → Answer
need p = answer 0 (p ∷ [])

unfoldable pub took : ℕ → Answer
took n = answer 0 (n ∷ [])

unfoldable pub fine : Answer
fine = answer 0 []

unfoldable pub no : Answer
no = answer 12 []

-- a record of 16 bytes, and of 1,024, of the stream p at the place a, at the index i of the window, of the time t
unfoldable pub out : ℕ → ℕ → ℕ → ℕ → Answer
out p a i t = answer 0 (p ∷ a ∷ i ∷ 16 ∷ 1 ∷ 7 ∷ t ∷ [])

unfoldable pub out_longest : ℕ → ℕ → ℕ → ℕ → Answer
out_longest p a i t = answer 0 (p ∷ a ∷ i ∷ 1024 ∷ 1 ∷ 7 ∷ t ∷ [])

-- damage of the stream p
unfoldable pub bad : ℕ → ℕ → ℕ → Answer
bad p a reason = answer 13 (p ∷ a ∷ reason ∷ [])

-- one stream, two streams, with no hints
unfoldable pub one : List Call → List Answer
unfolding answers_to opened next⁺ least start padded known_in after_read field frame_at
one cs = answers_to (opened 1 []) cs

unfoldable pub two : List Call → List Answer
unfolding answers_to opened next⁺ least start padded known_in after_read field frame_at
two cs = answers_to (opened 2 []) cs

-- nothing comes, then the end; an ended stream takes nothing, an empty portion neither
pub empty : (one (call ∷ portion 0 [] ∷ call ∷ word 0 ∷ call ∷ word 0 ∷ portion 0 (1 ∷ []) ∷ portion 0 [] ∷ [])
    ≡ need 0 ∷ took 0 ∷ need 0 ∷ fine ∷ fine ∷ no ∷ no ∷ no ∷ [])
unfolding one two begun longest shorts short need took fine no out out_longest bad
empty = refl

-- the length is judged once 16 bytes are there
pub judged_at_16 : (one (portion 0 (replicate 15 0) ∷ call ∷ portion 0 (0 ∷ []) ∷ call ∷ portion 0 (0 ∷ []) ∷ call ∷ [])
    ≡ took 15 ∷ need 0 ∷ took 1 ∷ bad 0 0 2 ∷ no ∷ fine ∷ [])
    × (one (portion 0 (begun 1 4 5) ∷ call ∷ []) ≡ took 16 ∷ bad 0 0 2 ∷ [])
    × (one (portion 0 (begun 15 0 5) ∷ call ∷ []) ≡ took 16 ∷ bad 0 0 2 ∷ [])
    × (one (portion 0 (begun 0 4 5) ∷ call ∷ []) ≡ took 16 ∷ need 0 ∷ [])
unfolding one two begun longest shorts short need took fine no out out_longest bad
judged_at_16 = (refl, refl, refl, refl)

-- reasons 1 and 3 come after the word alone
pub after_the_word : (one (portion 0 (replicate 15 0) ∷ word 0 ∷ call ∷ []) ≡ took 15 ∷ fine ∷ bad 0 0 1 ∷ [])
    × (one (portion 0 (begun 17 0 5) ∷ call ∷ word 0 ∷ call ∷ []) ≡ took 16 ∷ need 0 ∷ fine ∷ bad 0 0 3 ∷ [])
unfolding one two begun longest shorts short need took fine no out out_longest bad
after_the_word = (refl, refl)

-- a record counts until the call after it is handed out
pub counts_until_called : (one (portion 0 (begun 0 4 5) ∷ call ∷ portion 0 (replicate 2000 9) ∷ call ∷ portion 0 (replicate 10 9)
    ∷ call ∷ portion 0 (replicate 10 9) ∷ word 0 ∷ call ∷ [])
    ≡ took 16 ∷ need 0 ∷ took 1008 ∷ out_longest 0 0 0 5 ∷ took 0 ∷ need 0 ∷ took 10 ∷ fine ∷ bad 0 1024 1 ∷ [])
    × (one (portion 0 (shorts 125) ∷ call ∷ portion 0 (shorts 6) ∷ call ∷ portion 0 (shorts 6) ∷ [])
    ≡ took 1024 ∷ out 0 0 0 1 ∷ took 0 ∷ out 0 16 16 1 ∷ took 16 ∷ [])
unfolding one two begun longest shorts short need took fine no out out_longest bad
counts_until_called = (refl, refl)

-- a record that began at the window's far end stands at its front once the rest has come
pub far_end : (one (portion 0 (short 1 ++ longest 2) ∷ call ∷ portion 0 (replicate 16 9) ∷ call ∷ portion 0 (replicate 18 9) ∷ call
    ∷ []) ≡ took 1024 ∷ out 0 0 0 1 ∷ took 0 ∷ need 0 ∷ took 16 ∷ out_longest 0 16 0 2 ∷ [])
    × (one (portion 0 (take 1023 (longest 2)) ∷ call ∷ portion 0 (replicate 1025 9) ∷ call ∷ call ∷ [])
    ≡ took 1023 ∷ need 0 ∷ took 1 ∷ out_longest 0 0 0 2 ∷ need 0 ∷ [])
unfolding one two begun longest shorts short need took fine no out out_longest bad
far_end = (refl, refl)

-- the stream of the least key is asked for, though another's record stands ready
pub least_first : (two (portion 1 (short 5) ∷ call ∷ portion 0 (short 7) ∷ call ∷ call ∷ word 1 ∷ call ∷ portion 1 [] ∷ word 1 ∷ call
    ∷ []) ≡ took 16 ∷ need 0 ∷ took 16 ∷ out 1 0 1024 5 ∷ need 1 ∷ fine ∷ out 0 0 0 7 ∷ no ∷ no ∷ need 0 ∷ [])
    × (two (portion 0 (short 9) ∷ call ∷ portion 1 (short 3) ∷ call ∷ call ∷ word 1 ∷ call ∷ [])
    ≡ took 16 ∷ need 1 ∷ took 16 ∷ out 1 0 1024 3 ∷ need 1 ∷ fine ∷ out 0 0 0 9 ∷ [])
    × (two (portion 0 (short 5) ∷ portion 1 (short 5) ∷ call ∷ call ∷ portion 0 (short 5) ∷ call ∷ [])
    ≡ took 16 ∷ took 16 ∷ out 0 0 0 5 ∷ need 0 ∷ took 16 ∷ out 0 16 0 5 ∷ [])
unfolding one two begun longest shorts short need took fine no out out_longest bad
least_first = (refl, refl, refl)

-- hints decide who is asked first
pub hints : (answers_to (opened 2 (10 ∷ 0 ∷ [])) (call ∷ word 1 ∷ call ∷ []) ≡ need 1 ∷ fine ∷ need 0 ∷ [])
    × (answers_to (opened 2 (0 ∷ 18446744073709551615 ∷ [])) (portion 0 (short 5) ∷ call ∷ call ∷ word 0 ∷ call ∷ [])
    ≡ took 16 ∷ out 0 0 0 5 ∷ need 0 ∷ fine ∷ need 1 ∷ [])
unfolding one two begun longest shorts short need took fine no out out_longest bad answers_to lastly opened next⁺ least start padded known_in after_read field frame_at
hints = (refl, refl)

-- an end that the same call found stays found; a stream closed so takes nothing
pub read_stays_read : (two (word 0 ∷ call ∷ portion 0 (1 ∷ []) ∷ []) ≡ fine ∷ need 1 ∷ no ∷ [])
    × ((lastly (opened 2 []) (word 0 ∷ call ∷ [])).statuses ≡ gone ∷ waiting 0 0 ∷ [])
unfolding one two begun longest shorts short need took fine no out out_longest bad answers_to lastly opened next⁺ least start padded known_in after_read field frame_at
read_stays_read = (refl, refl)

-- damage that is not reported yet closes nothing
pub not_reported_yet : (two (portion 1 (replicate 16 0) ∷ call ∷ portion 1 (1 ∷ []) ∷ word 1 ∷ portion 0 (short 5) ∷ call ∷ call ∷ [])
    ≡ took 16 ∷ need 0 ∷ took 1 ∷ fine ∷ took 16 ∷ bad 1 0 2 ∷ out 0 0 0 5 ∷ [])
    × (one (portion 0 (short 1 ++ replicate 16 0) ∷ call ∷ portion 0 (1 ∷ []) ∷ call ∷ portion 0 [] ∷ call ∷ [])
    ≡ took 32 ∷ out 0 0 0 1 ∷ took 1 ∷ bad 0 16 2 ∷ no ∷ fine ∷ [])
unfolding one two begun longest shorts short need took fine no out out_longest bad
not_reported_yet = (refl, refl)

-- records that are kept come out after the word
pub ended_with_records : (one (portion 0 (short 1 ++ short 2) ∷ word 0 ∷ portion 0 [] ∷ call ∷ call ∷ call ∷ call ∷ [])
    ≡ took 32 ∷ fine ∷ no ∷ out 0 0 0 1 ∷ out 0 16 16 2 ∷ fine ∷ fine ∷ [])
    × (one (portion 0 (longest 2) ∷ call ∷ word 0 ∷ call ∷ []) ≡ took 1024 ∷ out_longest 0 0 0 2 ∷ fine ∷ fine ∷ [])
unfolding one two begun longest shorts short need took fine no out out_longest bad
ended_with_records = (refl, refl)

-- a stream that is not there
pub not_there : (two (portion 2 (1 ∷ []) ∷ portion 256 [] ∷ portion 18446744073709551615 [] ∷ word 2 ∷ []) ≡ no ∷ no ∷ no ∷ no ∷ [])
unfolding one two begun longest shorts short need took fine no out out_longest bad
not_there = refl

-- a stream takes 2^63 bytes in all
pub most : (answers_to (record {
  statuses = waiting 0 (2 ^ 63 - 16)
      ∷ [];
  kept = λ p. record { at = 0; base = 2 ^ 63 - 16; bytes = []; over = false };
}) (portion 0 (short 3 ++ replicate 4 9)
    ∷ call ∷ call ∷ portion 0 (1 ∷ []) ∷ word 0 ∷ call ∷ []) ≡ took 16 ∷ out 0 (2 ^ 63 - 16) 0 3 ∷ need 0 ∷ took 0 ∷ fine ∷ fine ∷ [])
    × (answers_to (record {
      statuses = waiting 0 (2 ^ 63 - 20)
          ∷ [];
      kept = λ p. record { at = 0; base = 2 ^ 63 - 20; bytes = []; over = false };
    }) (portion 0 (short 3 ++ replicate 5 9)
    ∷ call ∷ call ∷ portion 0 (1 ∷ []) ∷ call ∷ word 0 ∷ call ∷ [])
    ≡ took 20 ∷ out 0 (2 ^ 63 - 20) 0 3 ∷ need 0 ∷ took 0 ∷ need 0 ∷ fine ∷ bad 0 (2 ^ 63 - 4) 1 ∷ [])
unfolding one two begun longest shorts short need took fine no out out_longest bad answers_to lastly opened next⁺ least start padded known_in after_read field frame_at
most = (refl, refl)

-- an add to a stream moves its record's bytes to the front of its window, an empty one too; an add to another leaves them
pub moved_to_front : (((lastly (opened 2 []) (portion 1 (shorts 3) ∷ portion 0 (short 9) ∷ call ∷ call ∷ portion 0 (short 9)
    ∷ [])).kept 1).at ≡ 1040)
    × (((lastly (opened 2 []) (portion 1 (shorts 3) ∷ portion 0 (short 9) ∷ call ∷ call ∷ portion 1 [] ∷ [])).kept 1).at ≡ 1024)
    × (take 16 ((lastly (opened 2 []) (portion 1 (shorts 3) ∷ portion 0 (short 9) ∷ call ∷ call ∷ portion 1 [] ∷ [])).kept 1).bytes
    ≡ short 1)
unfolding one two begun longest shorts short need took fine no out out_longest bad answers_to lastly opened next⁺ least start padded known_in after_read field frame_at
moved_to_front = (refl, refl, refl)

-- the printed replay example, each stream in portions of n bytes with a call behind each
unfoldable pub in_portions : ℕ → ℕ → ℕ → List ℕ → List Call
in_portions zero n p xs = []
in_portions (suc f) n p xs = portion p (take n xs) ∷ call ∷ in_portions f n p (drop n xs)

unfoldable pub printed : ℕ → List machine.Answer
unfolding in_portions short heard opened next⁺ least start padded known_in after_read field frame_at
printed n =
    until_end (heard (opened 2 []) (in_portions 19 n 0 (short 5 ++ 1 ∷ 2 ∷ 3 ∷ []) ++ word 0 ∷ in_portions 16 n 1 (short 6)
    ++ word 1 ∷ call ∷ call ∷ call ∷ call ∷ []))

unfoldable pub whole_printed : List machine.Answer
unfolding whole
whole_printed = whole 0 0 5 ∷ says 0 (damage_at 16 1) ∷ whole 1 0 6 ∷ end ∷ []

-- the same four answers, however portioned
pub replay : (printed 1 ≡ whole_printed) × (printed 2 ≡ whole_printed) × (printed 3 ≡ whole_printed) × (printed 7 ≡ whole_printed)
    × (printed 16 ≡ whole_printed) × (printed 19 ≡ whole_printed)
unfolding printed whole_printed until_end
replay = (refl, refl, refl, refl, refl, refl)
