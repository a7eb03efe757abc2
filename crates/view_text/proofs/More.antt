-- The lines of minutes and of one more.
use Rattle.std.proofs.Common.{◌≡◌, ◌∙◌, ℕ, suc, zero, ◌+◌, ◌&&◌, true, false, Bool, List, [], ◌∷◌, ◌++◌, length, get_or, set, refl, ap, sym, arith}
use Rattle.std.specs.Prelude.{◌==◌}
use Rattle.activity_codec.proofs.ByTest.{by_test}
use Rattle.view_model.specs.declared.Viewed.{Viewed}
use Rattle.view_model.specs.declared.Line.{Line}
use Rattle.view_model.specs.Lines.{day_of_minute, goes_on, with_minute, lines_of}
use Rattle.view_text.specs.Exact.{both}
use Rattle.view_text.specs.Growing.{follows, line_at, up_to, with_more}

module _ {X : Type 0} (same : X → X → Bool) (exact : (one other : X) → same one other ≡ true → one ≡ other) where
  -- a minute in front of a line shows what the line shows
  shows-line : (x : Viewed X) (line : Line X) → goes_on same x line ≡ true → x.shown ≡ line.shown
  shows-line x line is = exact x.shown line.shown (both (x.minute + 1 == line.first && day_of_minute x.minute == day_of_minute line.first) (same x.shown line.shown) is).1

  -- one line, with a minute in front of it and one behind it
  one-more : (x m : Viewed X) (line : Line X) → with_minute same x (with_more same (line ∷ []) m) ≡ with_more same (with_minute same x (line ∷ [])) m
  one-more x m line =
      by_test (goes_on same x line)
      (λ joined. by_test (follows same line m)
      (λ on. rw (on, joined, on) refl)
      (λ off. rw (off, joined, off) refl))
      (λ apart. by_test (follows same line m)
      (λ on. rw (on, apart, on) refl)
      (λ off. rw (off, apart, off) refl))

  -- a minute in front of lines, and one behind them
  front-more : (x m : Viewed X) (lines : List (Line X)) → with_minute same x (with_more same lines m) ≡ with_more same (with_minute same x lines) m
  front-more x m [] =
      let of : X → List (Line X) = λ shown. record { first = x.minute; last = m.minute; shown = shown } ∷ [] in
      by_test (goes_on same x (line_at m))
      (λ joined. rw joined (ap of (sym (shows-line x (line_at m) joined))))
      (λ apart. rw apart refl)
  front-more x m (line ∷ []) = one-more x m line
  front-more x m (line ∷ next ∷ lines) = by_test (goes_on same x line) (λ joined. rw joined refl) (λ apart. rw apart refl)

  -- the lines of minutes and of one more
  pub lines_of-more : (minutes : List (Viewed X)) (m : Viewed X) → lines_of same (minutes ++ m ∷ []) ≡ with_more same (lines_of same minutes) m
  lines_of-more [] m = refl
  lines_of-more (x ∷ minutes) m = ap (with_minute same x) (lines_of-more minutes m) ∙ front-more x m (lines_of same minutes)

-- the last line ends with the minute
pub joins-last : {X : Type 0} → (same : X → X → Bool) (lines : List (Line X)) (m : Viewed X) (i : ℕ) (d : Line X) → length lines ≡ i + 1 → follows same (get_or lines i d) m ≡ true → with_more same lines m ≡ set lines i (up_to m (get_or lines i d))
joins-last same [] m i d count on = absurd (omega (arith, count))
joins-last same (line ∷ []) m zero d count on = rw on refl
joins-last same (line ∷ []) m (suc i) d count on = absurd (omega (arith, count))
joins-last same (line ∷ next ∷ lines) m zero d count on = absurd (omega (arith, count))
joins-last same (line ∷ next ∷ lines) m (suc i) d count on = ap (λ (ls : List (Line _)). line ∷ ls) (joins-last same (next ∷ lines) m i d (omega (arith, count)) on)

-- or the minute is a line of its own
pub begins-line : {X : Type 0} → (same : X → X → Bool) (lines : List (Line X)) (m : Viewed X) (i : ℕ) (d : Line X) → length lines ≡ i + 1 → follows same (get_or lines i d) m ≡ false → with_more same lines m ≡ lines ++ line_at m ∷ []
begins-line same [] m i d count off = absurd (omega (arith, count))
begins-line same (line ∷ []) m zero d count off = rw off refl
begins-line same (line ∷ []) m (suc i) d count off = absurd (omega (arith, count))
begins-line same (line ∷ next ∷ lines) m zero d count off = absurd (omega (arith, count))
begins-line same (line ∷ next ∷ lines) m (suc i) d count off = ap (λ (ls : List (Line _)). line ∷ ls) (begins-line same (next ∷ lines) m i d (omega (arith, count)) off)
