-- The next answer at the C door where streams arrive in portions: what the lent numbers hold afterwards.
use Rattle.std.specs.Prelude.{ℕ, zero, suc, ◌≤◌, ◌≡◌, true, false, List, [], ◌∷◌, length}
use Rattle.theory.specs.Answer.{Answer, answer}
use Rattle.feed_rules.specs.Windows.{add_answer, end_answer, next_answer}
use Rattle.feed_rules.specs.Spans.{feed_of, FeedOk, FeedArrays, feed_fit_in, feed_at, FeedSound, FeedSaysIn, FeedNeedsIn}
use Rattle.feed_rules.specs.Adding.{word_fits, portion_fits, FeedAdds, FeedEnds, feed_open_answer, FeedOpens}
use Rattle.door_answers.specs.Answers.{number_in, value_in}
use Rattle.door_answers.specs.Handing.{RecordNumbers, record_numbers, RecordHanded}

-- what `found` holds: 1 for a record, 0 for the end, 2 where more is needed first; a refusal leaves what it held
unfoldable pub found_in : ℕ → Answer → ℕ
found_in held (answer zero []) = 0
found_in held (answer zero (x ∷ [])) = 2
found_in held (answer zero (x ∷ y ∷ values)) = 1
found_in held (answer (suc n) values) = held

-- the lent numbers of a call
pub record Numbers : Type 0 where
  pub found : ℕ
  pub index : ℕ
  pub rest : RecordNumbers

abbrev pub numbers : ℕ → ℕ → ℕ → ℕ → ℕ → ℕ → ℕ → ℕ → ℕ → Numbers
numbers found stream place index long kind instrument time reason =
    record { found = found; index = index; rest = record_numbers stream place long kind instrument time reason }

-- a call with this answer returned r, and left these in the lent numbers: a record's are those of the answer, the end's and, but for the
-- stream, those of a call that needs more 0; of these 13 sets stream, place and reason alone, and 15 none
pub record FedHanded (x : Answer) (r : ℕ) (o o' : Numbers) : Type 0 where
  pub finds : o'.found ≡ found_in o.found x
  pub indexes : o'.index ≡ value_in o.index 2 x
  pub hands : RecordHanded 3 x r o.rest o'.rest

-- `desk_feed_next`, which returned r: 15 and nothing changed where what is lent is not right; else what the call for the next answer says
pub record DeskFeedNext (window : List ℕ) (held : ℕ) (a : FeedArrays) (o : Numbers) (r held' : ℕ) (a' : FeedArrays) (o' : Numbers) : Type 0 where
  pub refused : feed_fit_in held window a ≡ false → FedHanded (answer 15 []) r o o' × (held' ≡ held) × (a' ≡ a)
  pub says : feed_fit_in held window a ≡ true → (n : ℕ) → n ≤ 256 → FeedSound n held a
      → (let x = next_answer (feed_at n window a) in FedHanded x r o o' × FeedSaysIn n window a x held' a' × FeedNeedsIn window held a x held' a')

-- `desk_feed_open`, which returned r: the number of the streams that the heap holds is that of the answer
pub record DeskFeedOpen (n : ℕ) (hints : List ℕ) (a : FeedArrays) (held r held' : ℕ) (a' : FeedArrays) : Type 0 where
  pub returns : r ≡ number_in (feed_open_answer n hints a)
  pub holds : held' ≡ value_in held 1 (feed_open_answer n hints a)
  pub opens : FeedOpens n hints a (feed_open_answer n hints a) a'

-- `desk_feed_bytes`, which returned r: 15 and nothing changed where what is lent is not right; else what a portion does to a sound state,
-- and the number of the bytes that were taken is that of the answer
pub record DeskFeedBytes (window ms cs hs ps : List ℕ) (p : ℕ) (xs : List ℕ) (taken r taken' : ℕ) (window' ps' : List ℕ) : Type 0 where
  pub refused : portion_fits (length ms) (length cs) (length hs) (length ps) (length window) ≡ false
      → (r ≡ 15) × (taken' ≡ taken) × (window' ≡ window) × (ps' ≡ ps)
  pub says : portion_fits (length ms) (length cs) (length hs) (length ps) (length window) ≡ true
      → (n held : ℕ) (ts hp : List ℕ) → n ≤ 256 → FeedOk n held ms ts cs hs hp ps
      → (let x = add_answer (feed_of n window ms ts cs hs ps) p xs in
      (r ≡ number_in x) × (taken' ≡ value_in taken 0 x) × FeedAdds n held window ms ts cs hs hp ps p xs x window' ps')

-- `desk_feed_end`, which returned r: 15 and nothing changed where what is lent is not right; else what the word does to a sound state
pub record DeskFeedEnd (ms ps : List ℕ) (p r : ℕ) (ps' : List ℕ) : Type 0 where
  pub refused : word_fits (length ms) (length ps) ≡ false → (r ≡ 15) × (ps' ≡ ps)
  pub says : word_fits (length ms) (length ps) ≡ true
      → (n held : ℕ) (window ts cs hs hp : List ℕ) → n ≤ 256 → FeedOk n held ms ts cs hs hp ps
      → (let x = end_answer (feed_of n window ms ts cs hs ps) p in (r ≡ number_in x) × FeedEnds n held window ms ts cs hs hp ps p x ps')
