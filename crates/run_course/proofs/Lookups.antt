-- What a log tells of a second with one line more.
use Rattle.std.proofs.Common.{◌≡◌, ℕ, Bool, true, false, cond, ◌||◌, Option, Some, None, List, [], ◌∷◌, ◌++◌, map, filter, refl, ap, sym, ◌∙◌, is_some}
use Rattle.std.specs.Prelude.{unwrap_or}
use Rattle.std.specs.List.{list_any}
use Rattle.std.proofs.lemmas.List.{map-append}
use Rattle.std.proofs.lemmas.List.Elements.{filter-append}
use Rattle.std.proofs.lemmas.List.Folds.{list_any-append}
use Rattle.activity_codec.specs.declared.values.Slot.{Slot}
use Rattle.log_model.specs.declared.lines.Break.{Break}
use Rattle.log_model.specs.declared.lines.Find.{Find}
use Rattle.log_model.specs.declared.lines.Verdict.{Verdict}
use Rattle.log_model.specs.Log.{RunLog, Phase, cut_of, cut_in, kept_by, kept_after, tears_here, is_torn_in, found_in}
use Rattle.run_unit_course.specs.Lines.{log_of}
use Rattle.run_course.specs.Moments.{and_break, and_find, finds_here, ABreakMoreIsSeen, AFindMoreIsSeen, ARefusalMoreIsNotSeen}

-- LOOK-UPS IN BREAKS speak of the breaks alone
pub cut-by : (log : RunLog) (u : ℕ) → cut_in log u ≡ cut_in (log_of log.breaks) u
unfolding cut_in
cut-by log u = refl

pub kept-by : (log : RunLog) (u : ℕ) → kept_after log u ≡ kept_after (log_of log.breaks) u
unfolding kept_after
kept-by log u = refl

pub torn-by : (log : RunLog) (u : ℕ) (p : Phase) (slot : Slot) → is_torn_in log u p slot ≡ list_any (tears_here u p slot) log.breaks
unfolding is_torn_in
torn-by log u p slot = refl

pub found-by : (log : RunLog) (u : ℕ) (p : Phase) (slot : Slot) → found_in log u p slot ≡ map (λ (f : Find). f.verdict) (filter (finds_here u p slot) log.finds)
unfolding found_in
found-by log u p slot = refl

pub cut-first : (b : Break) (bs : List Break) (u : ℕ) → cut_in (log_of (b ∷ bs)) u ≡ cond (is_some (cut_of u b)) (cut_of u b) (cut_in (log_of bs) u)
unfolding cut_in
cut-first b bs u = refl

pub cut-nothing : (u : ℕ) → cut_in (log_of []) u ≡ None
unfolding cut_in
cut-nothing u = refl

-- the first of three
first-of : (x y z : Option ℕ) → cond (is_some x) x (cond (is_some y) y z) ≡ cond (is_some (cond (is_some x) x y)) (cond (is_some x) x y) z
first-of None y z = refl
first-of (Some n) y z = refl

itself : (x : Option ℕ) → cond (is_some x) x None ≡ x
itself None = refl
itself (Some n) = refl

cut-more : (bs : List Break) (b : Break) (u : ℕ) → cut_in (log_of (bs ++ b ∷ [])) u ≡ cond (is_some (cut_in (log_of bs) u)) (cut_in (log_of bs) u) (cut_of u b)
cut-more [] b u =
    cut-first b [] u ∙ ap (λ (o : Option ℕ). cond (is_some (cut_of u b)) (cut_of u b) o) (cut-nothing u) ∙ itself (cut_of u b)
    ∙ sym (ap (λ (o : Option ℕ). cond (is_some o) o (cut_of u b)) (cut-nothing u))
cut-more (x ∷ bs) b u =
    cut-first x (bs ++ b ∷ []) u ∙ ap (λ (o : Option ℕ). cond (is_some (cut_of u x)) (cut_of u x) o) (cut-more bs b u)
    ∙ first-of (cut_of u x) (cut_in (log_of bs) u) (cut_of u b)
    ∙ sym (ap (λ (o : Option ℕ). cond (is_some o) o (cut_of u b)) (cut-first x bs u))

pick : (o rest : Option ℕ) → unwrap_or (cond (is_some o) o rest) 0 ≡ cond (is_some o) (unwrap_or o 0) (unwrap_or rest 0)
pick None rest = refl
pick (Some k) rest = refl

kept-first : (b : Break) (bs : List Break) (u : ℕ) → kept_after (log_of (b ∷ bs)) u ≡ cond (is_some (kept_by u b)) (unwrap_or (kept_by u b) 0) (kept_after (log_of bs) u)
unfolding kept_after
kept-first b bs u = pick (kept_by u b) _

kept-more : (bs : List Break) (b : Break) (u : ℕ) → kept_by u b ≡ None → kept_after (log_of (bs ++ b ∷ [])) u ≡ kept_after (log_of bs) u
kept-more [] b u none = kept-first b [] u ∙ ap (λ (o : Option ℕ). cond (is_some o) (unwrap_or o 0) (kept_after (log_of []) u)) none
kept-more (x ∷ bs) b u none =
    kept-first x (bs ++ b ∷ []) u ∙ ap (λ (k : ℕ). cond (is_some (kept_by u x)) (unwrap_or (kept_by u x) 0) k) (kept-more bs b u none) ∙ sym (kept-first x bs u)

neither : (b c : Bool) → (b || (c || false)) ≡ (b || c)
neither true c = refl
neither false true = refl
neither false false = refl

pub break-more : ABreakMoreIsSeen
break-more log b u = record {
  cut = cut-by (and_break log b) u ∙ cut-more log.breaks b u ∙ sym (ap (λ (o : Option ℕ). cond (is_some o) o (cut_of u b)) (cut-by log u));
  torn = λ p slot. torn-by (and_break log b) u p slot ∙ list_any-append (tears_here u p slot) log.breaks (b ∷ [])
      ∙ neither (list_any (tears_here u p slot) log.breaks) (tears_here u p slot b) ∙ sym (ap (λ (t : Bool). t || tears_here u p slot b) (torn-by log u p slot));
  found = λ p slot. found-by (and_break log b) u p slot ∙ sym (found-by log u p slot);
  kept = λ none. kept-by (and_break log b) u ∙ kept-more log.breaks b u none ∙ sym (kept-by log u);
}

one-verdict : (b : Bool) (f : Find) → map (λ (f : Find). f.verdict) (cond b (f ∷ []) []) ≡ cond b (f.verdict ∷ []) []
one-verdict true f = refl
one-verdict false f = refl

pub find-more : AFindMoreIsSeen
find-more log f u = record {
  cut = cut-by (and_find log f) u ∙ sym (cut-by log u);
  torn = λ p slot. torn-by (and_find log f) u p slot ∙ sym (torn-by log u p slot);
  found = λ p slot. found-by (and_find log f) u p slot
      ∙ ap (map (λ (f : Find). f.verdict)) (filter-append (finds_here u p slot) log.finds (f ∷ []))
      ∙ map-append (λ (f : Find). f.verdict) (filter (finds_here u p slot) log.finds) (filter (finds_here u p slot) (f ∷ []))
      ∙ ap (λ (vs : List Verdict). map (λ (f : Find). f.verdict) (filter (finds_here u p slot) log.finds) ++ vs) (one-verdict (finds_here u p slot f) f)
      ∙ sym (ap (λ (vs : List Verdict). vs ++ cond (finds_here u p slot f) (f.verdict ∷ []) []) (found-by log u p slot));
  kept = kept-by (and_find log f) u ∙ sym (kept-by log u);
}

pub refusal-more : ARefusalMoreIsNotSeen
refusal-more log refused u = record {
  cut = cut-by (record log { refused = refused }) u ∙ sym (cut-by log u);
  torn = λ p slot. torn-by (record log { refused = refused }) u p slot ∙ sym (torn-by log u p slot);
  found = λ p slot. found-by (record log { refused = refused }) u p slot ∙ sym (found-by log u p slot);
  kept = kept-by (record log { refused = refused }) u ∙ sym (kept-by log u);
}
