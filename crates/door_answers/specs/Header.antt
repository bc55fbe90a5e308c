-- A metadata's header at the C door: its words, and what they hold after a call.
use Rattle.std.specs.Prelude.{ℕ, zero, suc, Bool, true, false, ◌&&◌, List, [], ◌∷◌, leb, eqb, cond, get_or, Option, Some, None}
use Rattle.theory.specs.Answer.{Answer, answer}
use Rattle.metadata_form.specs.declared.header.Header.{Header}

-- the most that each of a header's words may hold: 8 bits of version, 32 of dataset, 16 of schema, 64 of start, end and limit, 8 of
-- stype_in and stype_out, 0 or 1 for ts_out, 64 of symbol_cstr_len and of the four counts
abbrev pub widths : List ℕ
widths =
    255 ∷ 4294967295 ∷ 65535 ∷ 18446744073709551615 ∷ 18446744073709551615 ∷ 18446744073709551615 ∷ 255 ∷ 255 ∷ 1 ∷ 18446744073709551615
    ∷ 18446744073709551615 ∷ 18446744073709551615 ∷ 18446744073709551615 ∷ 18446744073709551615 ∷ []

-- as many words as bounds, none over its own
unfoldable pub within : List ℕ → List ℕ → Bool
within [] [] = true
within [] (b ∷ bs) = false
within (x ∷ xs) [] = false
within (x ∷ xs) (b ∷ bs) = leb x b && within xs bs

-- the words are a header; where not, 15
unfoldable pub header_fits : List ℕ → Bool
unfolding within
header_fits w = within w widths

-- the header that words are, in the order of its fields
abbrev pub header_of : List ℕ → Header
header_of w = record {
  version = get_or w 0 0;
  dataset = get_or w 1 0;
  schema = get_or w 2 0;
  start = get_or w 3 0;
  end = get_or w 4 0;
  limit = get_or w 5 0;
  stype_in = get_or w 6 0;
  stype_out = get_or w 7 0;
  ts_out = eqb (get_or w 8 0) 1;
  symbol_cstr_len = get_or w 9 0;
  symbols = get_or w 10 0;
  partial = get_or w 11 0;
  not_found = get_or w 12 0;
  mappings = get_or w 13 0;
}

-- the header that words are, where they are one
abbrev pub header_read : List ℕ → Option Header
header_read w = cond (header_fits w) (Some (header_of w)) None

-- what a header's words hold: those of a done call's header; a refusal leaves what they held
unfoldable pub words_in : List ℕ → Answer → List ℕ
words_in held (answer zero values) = values
words_in held (answer (suc n) values) = held
