-- The build on lent memory computed by the definitions: 15, 14 before the rest, and what the table then holds.
use Rattle.std.specs.Prelude.{◌≡◌, refl, ℕ, false, List, [], ◌∷◌}
use Rattle.theory.specs.Answer.{answer}
use Rattle.theory.specs.Fields.{put_field}
use Rattle.leaves_names.specs.Names.{well_formed, list_fits, names_of, name_of, stand_from, name_start, is_name, names_from}
use Rattle.leaves_utf8.specs.Utf8.{is_utf8, within}
use Rattle.leaves_text.specs.NumberText.{number_text, some_digits, digits, is_digit}
use Rattle.leaves_days.specs.Days.{day_of}
use Rattle.leaves_days.specs.Calendar.{is_date, day_number, is_leap, month_days, days_of_years, days_before}
use Rattle.map_rules.specs.Table.{room_fits}
use Rattle.map_point.specs.Entries.{put_entry, put_entries}
use Rattle.map_point.specs.Points.{points_fit}
use Rattle.metadata_rules.specs.Words.{mappings_from, before}
use Rattle.metadata_form.specs.declared.header.Header.{Header}
use Rattle.metadata_form.specs.Header.{Lists, lists, metadata_of, metadata_fits}
use Rattle.build_point.specs.Build.{point_in_time_answer, point_in_time_memory}

-- a header with these stypes and one mapping
abbrev header : ℕ → ℕ → Header
header i o = record {
  version = 1;
  dataset = 2;
  schema = 1;
  start = 0;
  end = 0;
  limit = 0;
  stype_in = i;
  stype_out = o;
  ts_out = false;
  symbol_cstr_len = 71;
  symbols = 0;
  partial = 0;
  not_found = 0;
  mappings = 1;
}

-- the mapping: the name of number 2, with the interval from 1970-01-02 to 1970-01-03 and the symbol of number 1
abbrev one : Lists
one = lists [] [] [] (2 ∷ 1 ∷ []) (19700102 ∷ 19700103 ∷ 1 ∷ [])

-- the names: empty, `5`, `A`
abbrev bytes : List ℕ
bytes = 53 ∷ 65 ∷ []

abbrev ends : List ℕ
ends = 0 ∷ 1 ∷ 2 ∷ []

-- a table of 9 bytes: 15, whatever the rest
odd : (point_in_time_answer 9 (header 1 1) one bytes ends 3 2 0 ≡ answer 15 []) × (point_in_time_memory 9 (header 1 1) one bytes ends 3 2 0 ≡ 0 ∷ 0 ∷ 0 ∷ 0 ∷ 0 ∷ 0 ∷ 0 ∷ 0 ∷ 0 ∷ [])
unfolding point_in_time_answer point_in_time_memory points_fit room_fits
odd = (refl, refl)

-- the bytes of one character as two names: 14, before 11 and 9
split : (point_in_time_answer 8 (header 1 1) one (195 ∷ 169 ∷ []) (1 ∷ 2 ∷ []) 2 2 0 ≡ answer 14 [])
    × (point_in_time_memory 8 (header 1 1) one (195 ∷ 169 ∷ []) (1 ∷ 2 ∷ []) 2 2 0 ≡ 0 ∷ 0 ∷ 0 ∷ 0 ∷ 0 ∷ 0 ∷ 0 ∷ 0 ∷ [])
unfolding point_in_time_answer point_in_time_memory points_fit room_fits metadata_fits before list_fits well_formed stand_from name_start is_name name_of is_utf8 within
split = (refl, refl)

-- `5` is the instrument 5 and `A` its symbol, in a table of two places
done : (point_in_time_answer 16 (header 1 0) one bytes ends 3 2 19700102 ≡ answer 0 (1 ∷ []))
    × (point_in_time_memory 16 (header 1 0) one bytes ends 3 2 19700102 ≡ 5 ∷ 0 ∷ 0 ∷ 0 ∷ 2 ∷ 0 ∷ 0 ∷ 0 ∷ 0 ∷ 0 ∷ 0 ∷ 0 ∷ 0 ∷ 0 ∷ 0 ∷ 0 ∷ [])
unfolding point_in_time_answer point_in_time_memory points_fit room_fits metadata_fits before list_fits well_formed stand_from name_start is_name name_of is_utf8 within names_of names_from metadata_of mappings_from number_text some_digits digits is_digit day_of is_date day_number is_leap month_days days_of_years days_before put_entries put_entry put_field
done = (refl, refl)
