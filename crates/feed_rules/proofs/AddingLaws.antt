-- A portion, and the word that a stream has ended, on a sound state. Assumes nothing.
use Rattle.std.specs.Prelude.{◌≡◌, ◌≢◌, ℕ, zero, suc, ◌+◌, ◌-◌, ◌*◌, ◌/◌, ◌%◌, ◌<◌, ◌≤◌, ◌^◌, Bool, not, cond, ◌||◌, length, set, eqb}
use Rattle.std.proofs.Math.Path.{refl, ap}
use Rattle.std.proofs.Common.{sym, ◌∙◌, true≢false, get_or-set_other}
use Rattle.std.proofs.Math.Decide.{ℕ_discrete, dec_lt}
use native.Mathlib.Omega.{arith}
use Rattle.std.proofs.Math.Bool.{true, false}
use mathlib.Core.List.{List, [], ◌∷◌}
use Rattle.std.proofs.Math.ListN.{get_or}
use Rattle.std.proofs.Math.Seq.{length-slice}
use Rattle.std.proofs.Math.Dec.{ltb}
use borrow.Author.Tests.{lt-ltb, le-ltb, eq-eqb, ne_eqb}
use Rattle.theory.specs.Answer.{Answer, answer}
use Rattle.records_rules.specs.Machine.{Status, gone}
use Rattle.records_rules.specs.View.{status_of, statuses_of, status_at}
use Rattle.feed_rules.specs.Windows.{Kept, Feed, put, is_gone, closed, taking}
use Rattle.feed_rules.specs.Windows.{grow, shut, add_answer, add_leaves, end_answer, end_leaves}
use Rattle.feed_rules.specs.Spans.{counts, bytes_in, kept_of, feed_of, SlotOk, FeedOk}
use Rattle.feed_rules.specs.WindowsLaws.{put_case}
use Rattle.feed_rules.specs.SpansLaws.{kept_one}
use Rattle.feed_rules.specs.Stores.{put_set, put_none, slots_put, statuses_out, not_there, alive}
use Rattle.feed_rules.specs.Going.{kept_at}
use Rattle.feed_rules.specs.Adding.{shut_at, room_for, laid_window, laid_spans, FeedAdds, FeedEnds}
use Rattle.feed_rules.specs.Laying.{slice_same, length_laid, laid_other, laid_bytes, fresh_span}

-- ---- who is closed

gone_mark : (m t a h : ℕ) → is_gone (status_of m t a h) ≡ eqb m 0
unfolding is_gone status_of
gone_mark zero t a h = refl
gone_mark (suc zero) t a h = refl
gone_mark (suc (suc m)) t a h = sym (ne_eqb (suc (suc m)) 0 (λ e. omega arith))

pub closed_is : {n held : ℕ} {ms ts cs hs hp ps : List ℕ} (window : List ℕ) → n ≤ 256 → FeedOk n held ms ts cs hs hp ps
    → (p : ℕ) → closed (feed_of n window ms ts cs hs ps) p ≡ shut_at p ms ps
unfolding closed is_gone feed_of kept_of shut_at
closed_is {n} {held} {ms} {ts} {cs} {hs} {hp} {ps} window hn ok p = go (dec_lt p n)
  where
    over : Bool
    over = not (eqb (get_or ps p 0 / 4294967296) 0)

    far : Dec (p < 256) → n ≤ p → true ≡ cond (ltb p 256) (eqb (get_or ms p 0) 0 || over) true
    far (yes h) l = rw (lt-ltb p 256 h, ok.unused p l) refl
    far (no h) l = rw (le-ltb p 256 (omega (arith, h))) refl

    go : Dec (p < n) → (is_gone (get_or (statuses_of n ms ts cs hs) p gone) || over) ≡ cond (ltb p 256) (eqb (get_or ms p 0) 0 || over) true
    go (yes h) =
        let e : is_gone (get_or (statuses_of n ms ts cs hs) p gone) ≡ eqb (get_or ms p 0) 0 =
        ap is_gone (status_at n ms ts cs hs p h) ∙ gone_mark (get_or ms p 0) (get_or ts p 0) (get_or cs p 0) (get_or hs p 0) in
        rw (lt-ltb p 256 (omega arith)) (ap (λ (b : Bool). b || over) e)
    go (no h) =
        let l : n ≤ p = omega (arith, h) in
        ap (λ (s : Status). is_gone s || over) (statuses_out n ms ts cs hs p l) ∙ far (dec_lt p 256) l

-- ---- a portion

module _ {n held : ℕ} {ms ts cs hs hp ps : List ℕ} (window : List ℕ) (hn : n ≤ 256) (ok : FeedOk n held ms ts cs hs hp ps)
    (p : ℕ) (xs : List ℕ) where
  abbrev F : Feed
  F = feed_of n window ms ts cs hs ps

  -- 12, and nothing changes
  pub add_shut : shut_at p ms ps ≡ true → FeedAdds n held window ms ts cs hs hp ps p xs (answer 12 []) window ps
  unfolding add_answer add_leaves
  add_shut e =
      let c : closed F p ≡ true = closed_is window hn ok p ∙ e in
      record {
        heard = rw c refl;
        leaves = rw c (record { statuses = refl; kept = λ q d. refl });
        sound = ok;
        refused = λ z. (refl, refl);
        laid = λ z. absurd (true≢false (sym c ∙ z));
      }

  -- ended, closed or not there: by the tests
  pub shut_far : 256 ≤ p → shut_at p ms ps ≡ true
  unfolding shut_at
  shut_far h = rw (le-ltb p 256 h) refl

  pub shut_gone : p < 256 → get_or ms p 0 ≡ 0 → shut_at p ms ps ≡ true
  unfolding shut_at
  shut_gone h e = rw (lt-ltb p 256 h, eq-eqb (get_or ms p 0) 0 e) refl

  module _ (below : p < 256) (live : get_or ms p 0 ≢ 0) where
    pub shut_ended : get_or ps p 0 / 4294967296 ≢ 0 → shut_at p ms ps ≡ true
    unfolding shut_at
    shut_ended d = rw (lt-ltb p 256 below, ne_eqb (get_or ms p 0) 0 live, ne_eqb (get_or ps p 0 / 4294967296) 0 d) refl

    module _ (going : get_or ps p 0 / 4294967296 ≡ 0) where
      shut_not : shut_at p ms ps ≡ false
      unfolding shut_at
      shut_not = rw (lt-ltb p 256 below, ne_eqb (get_or ms p 0) 0 live, eq-eqb (get_or ps p 0 / 4294967296) 0 going) refl

      there : p < n
      there = go (dec_lt p n)
        where
          go : Dec (p < n) → p < n
          go (yes h) = h
          go (no h) = absurd (live (ok.unused p (omega (arith, h))))

      pub slot : SlotOk (get_or ms p 0) (get_or cs p 0) (get_or hs p 0) (get_or ps p 0)
      slot = ok.slots p there live

      module _ (long : length window ≡ 262144) (lp : 256 ≤ length ps) where
        abbrev s : ℕ
        s = get_or ps p 0

        abbrev k : ℕ
        k = room_for (length xs) (get_or ms p 0) (get_or cs p 0) (get_or hs p 0) s

        fill_is : length (bytes_in window p s) ≡ s / 65536 % 65536
        fill_is =
            length-slice (1024 * p + s % 65536) (1024 * p + s % 65536 + s / 65536 % 65536) window (omega (arith, slot.short))
            ∙ omega arith

        room_is : k ≡ taking (length xs) (F.kept p)
        unfolding room_for feed_of kept_of taking
        room_is =
            let e : ltb 1024 (s % 65536 + s / 65536 % 65536) ≡ false = le-ltb 1024 (s % 65536 + s / 65536 % 65536) slot.short in
            rw (e, fill_is) refl

        room_fits : (k ≤ length xs) × (s / 65536 % 65536 + k ≤ 1024)
            × (get_or cs p 0 - counts (get_or ms p 0) (get_or hs p 0) + (s / 65536 % 65536 + k) ≤ 2 ^ 63)
        unfolding room_for
        room_fits =
            let e : ltb 1024 (s % 65536 + s / 65536 % 65536) ≡ false = le-ltb 1024 (s % 65536 + s / 65536 % 65536) slot.short in
            rw e (omega arith, omega (arith, slot.short), omega (arith, slot.most, slot.short))

        kept_laid : kept_of (laid_window window p s xs k) p (get_or ms p 0) (get_or cs p 0) (get_or hs p 0) (65536 * (s / 65536 % 65536 + k))
            ≡ grow p xs (F.kept p)
        unfolding feed_of kept_of grow
        kept_laid =
            let n' = s / 65536 % 65536 + k in
            let b : n' ≤ 1024 = room_fits.1 in
            let z = fresh_span n' b in
            let e₁ : 65536 * n' % 65536 ≡ 0 = z.0 in
            let e₂ : 65536 * n' / 65536 % 65536 ≡ n' = z.1 in
            let e₃ : 65536 * n' / 4294967296 ≡ 0 = z.2 in
            let e₄ : 1024 * p + 0 ≡ 1024 * p = omega arith in
            kept_one (rw e₁ e₄) refl
            (rw (e₁, e₂, e₄, ← room_is) (laid_bytes window p s xs k long below slot.short room_fits.1 room_fits.0))
            (rw (e₃, going) refl)

        abbrev after : List ℕ
        after = laid_window window p s xs k

        abbrev spans' : List ℕ
        spans' = laid_spans ps p k

        slot_laid : SlotOk (get_or ms p 0) (get_or cs p 0) (get_or hs p 0) (65536 * (s / 65536 % 65536 + k))
        slot_laid =
            let z = fresh_span (s / 65536 % 65536 + k) room_fits.1 in
            record {
              short = rw (z.0, z.1) (omega (arith, room_fits.1));
              ends = rw z.2 (omega arith);
              fits = rw z.1 (omega (arith, slot.fits));
              placed = slot.placed;
              most = rw z.1 room_fits.2;
            }

        -- another stream's bytes stay
        kept_other : (q : ℕ) → q ≢ p → q < n → get_or ms q 0 ≢ 0 → kept_at after ms cs hs spans' q ≡ kept_at window ms cs hs ps q
        unfolding kept_of
        kept_other q d l m =
            let o = ok.slots q l m in
            let e : get_or spans' q 0 ≡ get_or ps q 0 = (put_set ps p (65536 * (s / 65536 % 65536 + k)) (omega arith)).there q d in
            let t = get_or ps q 0 in
            let from₀ = 1024 * q + t % 65536 in
            rw e (kept_one refl refl
            (slice_same from₀ (from₀ + t / 65536 % 65536) window after
            (length_laid window p s xs k long below slot.short room_fits.1 room_fits.0)
            (omega (arith, o.short))
            (λ i u v. laid_other window p s xs k long below slot.short room_fits.1 room_fits.0 i (λ x y. d (omega (arith, o.short, room_fits.1)))))
            refl)

        kept_all : (q : ℕ) → get_or (statuses_of n ms ts cs hs) q gone ≢ gone
            → kept_at after ms cs hs spans' q ≡ put p (grow p xs (F.kept p)) F.kept q
        unfolding feed_of
        kept_all q d =
            let h : q < n = not_there n ms ts cs hs q d in
            let m : get_or ms q 0 ≢ 0 =
            alive (get_or ms q 0) (get_or ts q 0) (get_or cs q 0) (get_or hs q 0) (rw (← status_at n ms ts cs hs q h) d) in
            let u = put_set ps p (65536 * (s / 65536 % 65536 + k)) (omega arith) in
            put_case (λ (y : Kept). kept_at after ms cs hs spans' q ≡ y) p (grow p xs (F.kept p)) F.kept q
            (λ e. ap (kept_at after ms cs hs spans') e
            ∙ ap (kept_of after p (get_or ms p 0) (get_or cs p 0) (get_or hs p 0)) u.here
            ∙ kept_laid)
            (λ e. kept_other q e h m)

        pub add_done : FeedAdds n held window ms ts cs hs hp ps p xs (answer 0 (k ∷ [])) after spans'
        unfolding add_answer add_leaves feed_of
        add_done =
            let c : closed F p ≡ false = closed_is window hn ok p ∙ shut_not in
            let u = put_set ps p (65536 * (s / 65536 % 65536 + k)) (omega arith) in
            record {
              heard = rw c (ap (λ (z : ℕ). answer 0 (z ∷ [])) room_is);
              leaves = rw c (record { statuses = refl; kept = kept_all });
              sound = record {
                state = ok.state;
                slots = slots_put (λ q m a h z. q < n → m ≢ 0 → SlotOk m a h z) (put_none ms p) (put_none cs p) (put_none hs p) u
                    (λ q i. ok.slots q) (λ i j. slot_laid);
                lone = ok.lone;
                unused = ok.unused;
              };
              refused = λ e. absurd (true≢false (sym e ∙ c));
              laid = λ e. (ap (λ (z : ℕ). laid_window window p s xs z) room_is, ap (λ (z : ℕ). laid_spans ps p z) room_is);
            }

        -- what is taken fits behind what is kept
        pub stays : (i : ℕ) → (1024 * p ≤ i → i < 1024 * p + (s / 65536 % 65536 + taking (length xs) (F.kept p)) → ⊥)
            → get_or (laid_window window p s xs (taking (length xs) (F.kept p))) i 0 ≡ get_or window i 0
        stays = rw (← room_is) (laid_other window p s xs k long below slot.short room_fits.1 room_fits.0)

  pub shut_no : shut_at p ms ps ≡ false → (p < 256) × (get_or ms p 0 ≢ 0) × (get_or ps p 0 / 4294967296 ≡ 0)
  shut_no e = (below (dec_lt p 256), live, going (ℕ_discrete (get_or ps p 0 / 4294967296) 0))
    where
      below : Dec (p < 256) → p < 256
      below (yes h) = h
      below (no h) = absurd (true≢false (sym (shut_far (omega (arith, h))) ∙ e))

      live : get_or ms p 0 ≢ 0
      live z = true≢false (sym (shut_gone (below (dec_lt p 256)) z) ∙ e)

      going : Dec (get_or ps p 0 / 4294967296 ≡ 0) → get_or ps p 0 / 4294967296 ≡ 0
      going (yes h) = h
      going (no h) = absurd (true≢false (sym (shut_ended (below (dec_lt p 256)) live h) ∙ e))

  module _ {x : Answer} {window' ps' : List ℕ} (a : FeedAdds n held window ms ts cs hs hp ps p xs x window' ps') where
    by_closed : (P : Type 0) → (closed F p ≡ true → P) → (closed F p ≡ false → P) → P
    by_closed P f g = go (closed F p) refl
      where
        go : (b : Bool) → closed F p ≡ b → P
        go true e = f e
        go false e = g e

    -- every byte of the window but those kept of the stream then is as at entry
    pub adds_others : length window ≡ 262144 → 256 ≤ length ps → (i : ℕ)
        → (1024 * p ≤ i → i < 1024 * p + (get_or ps p 0 / 65536 % 65536 + taking (length xs) (F.kept p)) → ⊥)
        → get_or window' i 0 ≡ get_or window i 0
    adds_others long lp i out =
        by_closed _ (λ e. ap (λ (w : List ℕ). get_or w i 0) (a.refused e).0)
        (λ e.
        let o = shut_no (sym (closed_is window hn ok p) ∙ e) in
        ap (λ (w : List ℕ). get_or w i 0) (a.laid e).0 ∙ stays o.0 o.1 o.2 long lp i out)

    -- every span but its own is as at entry
    pub adds_spans : (q : ℕ) → q ≢ p → get_or ps' q 0 ≡ get_or ps q 0
    adds_spans q d =
        by_closed _ (λ e. ap (λ (l : List ℕ). get_or l q 0) (a.refused e).1)
        (λ e. ap (λ (l : List ℕ). get_or l q 0) (a.laid e).1 ∙ get_or-set_other ps p q _ 0 d)

-- ---- the word that a stream has ended

-- a span with the mark of the end
ended_span : (s : ℕ) → s / 4294967296 ≡ 0
    → ((s + 4294967296) % 65536 ≡ s % 65536) × ((s + 4294967296) / 65536 % 65536 ≡ s / 65536 % 65536) × ((s + 4294967296) / 4294967296 ≡ 1)
ended_span s h =
    let e : (s + 4294967296) / 65536 ≡ s / 65536 + 65536 = omega arith in
    (omega arith, rw e (omega arith), omega arith)

module _ {n held : ℕ} {ms ts cs hs hp ps : List ℕ} (window : List ℕ) (hn : n ≤ 256) (ok : FeedOk n held ms ts cs hs hp ps) (p : ℕ) where
  abbrev G : Feed
  G = feed_of n window ms ts cs hs ps

  pub end_shut : shut_at p ms ps ≡ true → FeedEnds n held window ms ts cs hs hp ps p (answer 12 []) ps
  unfolding end_answer end_leaves
  end_shut e =
      let c : closed G p ≡ true = closed_is window hn ok p ∙ e in
      record { heard = rw c refl; leaves = rw c (record { statuses = refl; kept = λ q d. refl }); sound = ok; refused = λ z. refl; spans = λ q d. refl }

  module _ (below : p < 256) (live : get_or ms p 0 ≢ 0) (going : get_or ps p 0 / 4294967296 ≡ 0) (lp : 256 ≤ length ps) where
    abbrev old : ℕ
    old = get_or ps p 0

    abbrev ends' : List ℕ
    ends' = set ps p (old + 4294967296)

    kept_shut : kept_of window p (get_or ms p 0) (get_or cs p 0) (get_or hs p 0) (old + 4294967296) ≡ shut (G.kept p)
    unfolding feed_of kept_of shut
    kept_shut = let z = ended_span old going in rw (z.0, z.1, z.2) refl

    shut_all : (q : ℕ) → kept_at window ms cs hs ends' q ≡ put p (shut (G.kept p)) G.kept q
    unfolding feed_of
    shut_all q =
        let u = put_set ps p (old + 4294967296) (omega arith) in
        put_case (λ (y : Kept). kept_at window ms cs hs ends' q ≡ y) p (shut (G.kept p)) G.kept q
        (λ e. ap (kept_at window ms cs hs ends') e
        ∙ ap (kept_of window p (get_or ms p 0) (get_or cs p 0) (get_or hs p 0)) u.here
        ∙ kept_shut)
        (λ e. ap (kept_of window q (get_or ms q 0) (get_or cs q 0) (get_or hs q 0)) (u.there q e))

    pub end_done : FeedEnds n held window ms ts cs hs hp ps p (answer 0 []) ends'
    unfolding end_answer end_leaves feed_of
    end_done =
        let c : closed G p ≡ false = closed_is window hn ok p ∙ shut_not window hn ok p [] below live going in
        let u = put_set ps p (old + 4294967296) (omega arith) in
        let o = slot window hn ok p [] below live going in
        let z = ended_span old going in
        record {
          heard = rw c refl;
          leaves = rw c (record { statuses = refl; kept = λ q d. shut_all q });
          sound = record {
            state = ok.state;
            slots = slots_put (λ q m a h z. q < n → m ≢ 0 → SlotOk m a h z) (put_none ms p) (put_none cs p) (put_none hs p) u
                (λ q i. ok.slots q)
                (λ i j. record {
                  short = rw (z.0, z.1) o.short;
                  ends = rw z.2 (omega arith);
                  fits = rw z.1 o.fits;
                  placed = o.placed;
                  most = rw z.1 o.most;
                });
            lone = ok.lone;
            unused = ok.unused;
          };
          refused = λ e. absurd (true≢false (sym e ∙ c));
          spans = u.there;
        }

-- ---- what is lent, by the tests

-- a portion is taken as far as there is room
pub room_bounds : (size mark place head s : ℕ) → s % 65536 + s / 65536 % 65536 ≤ 1024
    → (room_for size mark place head s ≤ size) × (s / 65536 % 65536 + room_for size mark place head s ≤ 1024)
unfolding room_for
room_bounds size mark place head s h =
    let e : ltb 1024 (s % 65536 + s / 65536 % 65536) ≡ false = le-ltb 1024 (s % 65536 + s / 65536 % 65536) h in
    rw e (omega arith, omega arith)
