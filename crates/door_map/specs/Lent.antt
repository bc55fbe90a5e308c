-- The eight numbers that an explanation hands over (RULES, Requests, No. 4).
use Rattle.std.specs.Prelude.{ℕ, ◌≡◌, get_or}
use Rattle.theory.specs.Answer.{Answer, answer}
use Rattle.door_answers.specs.Answers.{number_in, value_in}
use Rattle.map_explain.specs.declared.explain.Named.{Named}
use Rattle.door_map.specs.declared.explain.Numbers.{Numbers}

-- a reason's number, an interval, and the next one, whose own number is not handed over, since it is one more
abbrev pub handed_of : ℕ → Named → Named → Numbers
handed_of reason x y = record {
  reason = reason;
  index = x.index;
  start = x.start;
  end = x.end;
  symbol = x.symbol;
  next_start = y.start;
  next_end = y.end;
  next_symbol = y.symbol;
}

-- the same of an answer's values; what it does not name is 0
abbrev pub numbers_in : Answer → Numbers
numbers_in (answer n vs) = record {
  reason = get_or vs 0 0;
  index = get_or vs 1 0;
  start = get_or vs 2 0;
  end = get_or vs 3 0;
  symbol = get_or vs 4 0;
  next_start = get_or vs 6 0;
  next_end = get_or vs 7 0;
  next_symbol = get_or vs 8 0;
}

-- the lent numbers of a call
abbrev pub lent : ℕ → ℕ → ℕ → ℕ → ℕ → ℕ → ℕ → ℕ → Numbers
lent reason index start end symbol next_start next_end next_symbol = record {
  reason = reason;
  index = index;
  start = start;
  end = end;
  symbol = symbol;
  next_start = next_start;
  next_end = next_end;
  next_symbol = next_symbol;
}

-- `desk_explain` with this answer, which returned r: the lent numbers become the answer's values; a refusal leaves what they held
pub record DeskExplain (x : Answer) (r : ℕ) (o o' : Numbers) : Type 0 where
  pub returns : r ≡ number_in x
  pub reason : o'.reason ≡ value_in o.reason 0 x
  pub index : o'.index ≡ value_in o.index 1 x
  pub start : o'.start ≡ value_in o.start 2 x
  pub end : o'.end ≡ value_in o.end 3 x
  pub symbol : o'.symbol ≡ value_in o.symbol 4 x
  pub next_start : o'.next_start ≡ value_in o.next_start 6 x
  pub next_end : o'.next_end ≡ value_in o.next_end 7 x
  pub next_symbol : o'.next_symbol ≡ value_in o.next_symbol 8 x
