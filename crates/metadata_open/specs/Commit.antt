-- A metadata in scratch, and laid over the lent lists: its words, 0 in the places that are freed, the rest as it was. Assumes nothing.
use Rattle.std.specs.Prelude.{◌≡◌, ℕ, ◌*◌, ◌/◌, ◌≤◌, List, length, take}
use Rattle.std.proofs.Math.Path.{refl}
use Rattle.std.proofs.Common.{ap, arith, length-take}
use Rattle.std.proofs.Math.Seq.{take-append_seam}
use Rattle.leaves_limits.specs.Limits.{most_mappings}
use Rattle.metadata_rules.specs.Metadata.{Metadata, count_intervals}
use Rattle.metadata_rules.specs.Words.{before, mapping_words, interval_words, mapping_length, interval_length, read_back}
use Rattle.metadata_words.specs.Over.{over}
use Rattle.metadata_form.specs.declared.header.Header.{Header}
use Rattle.metadata_form.specs.declared.header.Counts.{Counts}
use Rattle.metadata_form.specs.Header.{Lists, lists, lengths_of, header_fields, metadata_of, MetadataFitting}

-- the lent lists with the metadata m laid over what was in use
unfoldable pub laid_over : Header → Lists → Metadata → Lists
laid_over h l m = record {
  symbols = over l.symbols h.symbols m.symbols;
  partial = over l.partial h.partial m.partial;
  not_found = over l.not_found h.not_found m.not_found;
  mappings = over l.mappings (2 * h.mappings) (mapping_words m.mappings);
  intervals = over l.intervals (3 * before l.mappings h.mappings) (interval_words m.mappings);
}

-- the lent lists with what stands in t laid over them, c of each list
abbrev pub committed : Header → Lists → Counts → Lists → Lists
committed h l c t = record {
  symbols = over l.symbols h.symbols (take c.symbols t.symbols);
  partial = over l.partial h.partial (take c.partial t.partial);
  not_found = over l.not_found h.not_found (take c.not_found t.not_found);
  mappings = over l.mappings (2 * h.mappings) (take (2 * c.mappings) t.mappings);
  intervals = over l.intervals (3 * before l.mappings h.mappings) (take (3 * c.intervals) t.intervals);
}

-- n words that stand in a list of lt can be laid over one of ld, of which so many were in use
pub record Fits1 (used n ld lt : ℕ) : Type 0 where
  pub used_lent : used ≤ ld
  pub new_lent : n ≤ ld
  pub new_held : n ≤ lt

pub record Commit (h : Header) (l : Lists) (c : Counts) (t : Lists) : Type 0 where
  pub few : h.mappings ≤ most_mappings
  pub symbols : Fits1 h.symbols c.symbols (length l.symbols) (length t.symbols)
  pub partial : Fits1 h.partial c.partial (length l.partial) (length t.partial)
  pub not_found : Fits1 h.not_found c.not_found (length l.not_found) (length t.not_found)
  pub mappings : Fits1 (2 * h.mappings) (2 * c.mappings) (length l.mappings) (length t.mappings)
  pub intervals : Fits1 (3 * before l.mappings h.mappings) (3 * c.intervals) (length l.intervals) (length t.intervals)

-- the metadata m stands in t, c of each list
pub record StandsIn (m : Metadata) (c : Counts) (t : Lists) : Type 0 where
  pub n_symbols : c.symbols ≡ length m.symbols
  pub symbols : take c.symbols t.symbols ≡ m.symbols
  pub n_partial : c.partial ≡ length m.partial
  pub partial : take c.partial t.partial ≡ m.partial
  pub n_not_found : c.not_found ≡ length m.not_found
  pub not_found : take c.not_found t.not_found ≡ m.not_found
  pub n_mappings : c.mappings ≡ length m.mappings
  pub mappings : take (2 * c.mappings) t.mappings ≡ mapping_words m.mappings
  pub n_intervals : c.intervals ≡ count_intervals m.mappings
  pub intervals : take (3 * c.intervals) t.intervals ≡ interval_words m.mappings

-- ---- laws

pub lists_same : {a a' b b' c c' m m' v v' : List ℕ} → a ≡ a' → b ≡ b' → c ≡ c' → m ≡ m' → v ≡ v' → lists a b c m v ≡ lists a' b' c' m' v'
lists_same e f g h i = λ j. lists (e j) (f j) (g j) (h j) (i j)

module _ {m : Metadata} {c : Counts} {t : Lists} (s : StandsIn m c t) where
  -- what stands in scratch is laid
  pub committed_laid : (h : Header) (l : Lists) → committed h l c t ≡ laid_over h l m
  unfolding laid_over
  committed_laid h l = rw (s.symbols, s.partial, s.not_found, s.mappings, s.intervals) refl

  held : (n : ℕ) (w x : List ℕ) → n ≡ length x → take n w ≡ x → n ≤ length w
  held n w x e f = omega (arith, length-take n w, ap length f)

  -- and may be laid over lists that hold it
  pub may_commit : (h : Header) (l : Lists) → MetadataFitting h (lengths_of l) l.mappings → c.symbols ≤ length l.symbols
      → c.partial ≤ length l.partial
      → c.not_found ≤ length l.not_found → c.mappings ≤ length l.mappings / 2 → c.intervals ≤ length l.intervals / 3 → Commit h l c t
  may_commit h l f p q r x y =
      let g = f.fit in
      let maps_lent = g.maps_lent in let even = g.maps_even in let whole = g.spans_whole in let sum = f.sum in
      record {
        few = omega (arith, g.maps_used);
        symbols = record { used_lent = g.symbols_used; new_lent = p; new_held = held c.symbols t.symbols m.symbols s.n_symbols s.symbols };
        partial = record { used_lent = g.partial_used; new_lent = q; new_held = held c.partial t.partial m.partial s.n_partial s.partial };
        not_found = record {
          used_lent = g.not_found_used;
          new_lent = r;
          new_held = held c.not_found t.not_found m.not_found s.n_not_found s.not_found;
        };
        mappings = record {
          used_lent = g.maps_used;
          new_lent = omega arith;
          new_held = held (2 * c.mappings) t.mappings (mapping_words m.mappings) (omega (arith, mapping_length m.mappings, s.n_mappings))
              s.mappings;
        };
        intervals = record {
          used_lent = omega arith;
          new_lent = omega arith;
          new_held = held (3 * c.intervals) t.intervals (interval_words m.mappings) (omega (arith, interval_length m.mappings, s.n_intervals))
              s.intervals;
        };
      }

-- what is laid is read back: with the metadata's own fields and counts in the header, header and lists are that metadata
pub laid_read : (h : Header) (l : Lists) (m : Metadata) (k : Header) → header_fields k ≡ m.fields → k.symbols ≡ length m.symbols → k.partial ≡ length m.partial
    → k.not_found ≡ length m.not_found → k.mappings ≡ length m.mappings → metadata_of k (laid_over h l m) ≡ m
unfolding metadata_of laid_over over
laid_read h l m k f a b c d =
    rw (f, a, b, c, d, take-append_seam m.symbols, take-append_seam m.partial, take-append_seam m.not_found, read_back m.mappings) refl
