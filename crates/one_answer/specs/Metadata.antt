-- The answers of the metadata merge: a header is its numbers, so that two answers that say the same are one. Assumes nothing.
use Rattle.std.specs.Prelude.{◌≡◌, refl, ℕ, Bool, true, false, List, eqb, get_or, Result}
use Rattle.std.proofs.Common.{sym, ap, ◌∙◌}
use Rattle.leaves.specs.Refusal.{answer_with}
use Rattle.leaves.specs.declared.refusal.Refusal.{Refusal}
use Rattle.metadata_form.specs.declared.header.Header.{Header}
use Rattle.theory.specs.Answer.{bit}
use Rattle.metadata_form.specs.Header.{numbers_of}
use Rattle.one_answer.specs.Leaves.{answer_one}

-- the header with these numbers
abbrev header_by : List ℕ → Bool → Header
header_by ns ts_out = record {
  version = get_or ns 0 0;
  dataset = get_or ns 1 0;
  schema = get_or ns 2 0;
  start = get_or ns 3 0;
  end = get_or ns 4 0;
  limit = get_or ns 5 0;
  stype_in = get_or ns 6 0;
  stype_out = get_or ns 7 0;
  ts_out = ts_out;
  symbol_cstr_len = get_or ns 9 0;
  symbols = get_or ns 10 0;
  partial = get_or ns 11 0;
  not_found = get_or ns 12 0;
  mappings = get_or ns 13 0;
}

bit_back : (b : Bool) → eqb (bit b) 1 ≡ b
bit_back true = refl
bit_back false = refl

abbrev header_of : List ℕ → Header
header_of ns = header_by ns (eqb (get_or ns 8 0) 1)

header_back : (h : Header) → header_of (numbers_of h) ≡ h
header_back h = ap (header_by (numbers_of h)) (bit_back h.ts_out)

header_one : (h k : Header) → numbers_of h ≡ numbers_of k → h ≡ k
header_one h k e = sym (header_back h) ∙ ap header_of e ∙ header_back k

pub metadata_one : (x y : Result Header Refusal) → answer_with numbers_of x ≡ answer_with numbers_of y → x ≡ y
metadata_one = answer_one numbers_of header_one
