-- The lines by which cards were judged: those of a card's stays, and those that are of the other's entering.
use Rattle.std.proofs.Common.{◌≡◌, ◌∙◌, inl, inr, Bool, true, false, cond, ◌||◌, ℕ, List, [], ◌∷◌, ◌++◌, filter, refl, ap, sym, subst}
use Rattle.std.specs.List.{AllByRecursion}
use Rattle.std.proofs.lemmas.List.Elements.{filter-append}
use Rattle.trace_model.specs.declared.Card.{Card}
use Rattle.trace_model.specs.declared.Card.TheVariants.{A, B}
use Rattle.tacho_types.specs.declared.texts.Registration.{Registration}
use Rattle.log_model.specs.Log.{RunLog, is_accepting}
use Rattle.log_model.specs.declared.lines.Find.{Find}
use Rattle.device_calls.specs.device_rule.Views.{other}
use Rattle.run_acts.specs.Truths.{Truths}
use Rattle.run_acts.specs.Stays.{Stay, Shown, after_stay, Whose, Both, Only, covers, AreTold, AreMerged, is_late, judged_told, judged_in, acceptances_told, IsTurnedAway, AreJudged}
use Rattle.run_acts.proofs.LastLine.{merged-swap, all-passed, found_of_all}

-- ---- of one card

-- EACH LINE is, in its order, the next of a card's, or of those that are of the other's entering
pub record OfOne (t : Truths) (c : Card) (lines mine : List Find) : Type 0 where
  pub others : List Find
  pub merged : AreMerged lines mine others
  pub theirs : AllByRecursion (t.entered (other c)) others

pub told-of : (whose : Whose) (t : Truths) (c : Card) (lines : List Find) (own : Card → List Find) → ((k : Card) → covers whose k ≡ true → AllByRecursion (t.entered k) (own k)) → covers whose c ≡ true → AreTold whose t lines own → OfOne t c lines (own c)
told-of Both t A lines own entered in_ h = record { others = own B; merged = h; theirs = entered B refl }
told-of Both t B lines own entered in_ h = record { others = own A; merged = merged-swap lines (own A) (own B) h; theirs = entered A refl }
told-of (Only A) t A lines own entered in_ h = record { others = h.0; merged = h.1; theirs = h.2 }
told-of (Only A) t B lines own entered in_ h = absurd (let wrong : false ≡ true = in_ in cc)
told-of (Only B) t A lines own entered in_ h = absurd (let wrong : false ≡ true = in_ in cc)
told-of (Only B) t B lines own entered in_ h = record { others = h.0; merged = h.1; theirs = h.2 }

-- ---- those by which it was accepted

abbrev accepting : Find → Bool
accepting f = is_accepting f.verdict

merged-filter : (p : Find → Bool) (lines one other : List Find) → AreMerged lines one other → AreMerged (filter p lines) (filter p one) (filter p other)
merged-filter p [] one other h = (ap (λ (l : List Find). filter p l) h.0, ap (λ (l : List Find). filter p l) h.1)
merged-filter p (x ∷ lines) one other (inl h) = subst (λ (l : List Find). AreMerged (filter p (x ∷ lines)) l (filter p other)) (ap (λ (l : List Find). filter p l) (sym h.1)) (by (p x) (merged-filter p lines h.0 other h.2))
  where
    by : (b : Bool) → AreMerged (filter p lines) (filter p h.0) (filter p other) → AreMerged (cond b (x ∷ filter p lines) (filter p lines)) (cond b (x ∷ filter p h.0) (filter p h.0)) (filter p other)
    by true rest = inl (filter p h.0, refl, rest)
    by false rest = rest
merged-filter p (x ∷ lines) one other (inr h) = subst (λ (l : List Find). AreMerged (filter p (x ∷ lines)) (filter p one) l) (ap (λ (l : List Find). filter p l) (sym h.1)) (by (p x) (merged-filter p lines one h.0 h.2))
  where
    by : (b : Bool) → AreMerged (filter p lines) (filter p one) (filter p h.0) → AreMerged (cond b (x ∷ filter p lines) (filter p lines)) (filter p one) (cond b (x ∷ filter p h.0) (filter p h.0))
    by true rest = inr (filter p h.0, refl, rest)
    by false rest = rest

-- an acceptance is one of the lines that judge
accepted-told : (fs : List Find) → filter accepting (filter (λ (f : Find). is_accepting f.verdict || is_late f.verdict) fs) ≡ filter accepting fs
accepted-told [] = refl
accepted-told (f ∷ fs) = by (is_accepting f.verdict) (is_late f.verdict) refl (accepted-told fs)
  where
    by : (a l : Bool) → is_accepting f.verdict ≡ a → filter accepting (filter (λ (g : Find). is_accepting g.verdict || is_late g.verdict) fs) ≡ filter accepting fs →
        filter accepting (cond (a || l) (f ∷ filter (λ (g : Find). is_accepting g.verdict || is_late g.verdict) fs) (filter (λ (g : Find). is_accepting g.verdict || is_late g.verdict) fs)) ≡ cond a (f ∷ filter accepting fs) (filter accepting fs)
    by true l is rest =
        ap (λ (b : Bool). cond b (f ∷ filter accepting (filter (λ (g : Find). is_accepting g.verdict || is_late g.verdict) fs)) (filter accepting (filter (λ (g : Find). is_accepting g.verdict || is_late g.verdict) fs))) is
        ∙ ap (λ (l_ : List Find). f ∷ l_) rest
    by false true is rest =
        ap (λ (b : Bool). cond b (f ∷ filter accepting (filter (λ (g : Find). is_accepting g.verdict || is_late g.verdict) fs)) (filter accepting (filter (λ (g : Find). is_accepting g.verdict || is_late g.verdict) fs))) is
        ∙ rest
    by false false is rest = rest

-- by none of those by which it was turned away, and by that of each stay
none-turned : (p : Shown) (fs : List Find) → AllByRecursion (IsTurnedAway p) fs → filter accepting fs ≡ []
none-turned p [] h = refl
none-turned p (f ∷ fs) h = ap (λ (b : Bool). cond b (f ∷ filter accepting fs) (filter accepting fs)) (ap is_accepting h.0.0) ∙ none-turned p fs h.1

own-accepted : (vehicle : Registration) (size : ℕ) (ss : List Stay) (since : List Find) (p : Shown) → AreJudged vehicle size ss since p → filter accepting (judged_in ss since) ≡ found_of_all ss
own-accepted vehicle size [] since p h = none-turned p since h
own-accepted vehicle size (s ∷ ss) since p h =
    filter-append accepting s.turned (s.found ∷ judged_in ss since)
    ∙ ap (λ (l : List Find). l ++ filter accepting (s.found ∷ judged_in ss since)) (none-turned p s.turned h.0.0)
    ∙ ap (λ (b : Bool). cond b (s.found ∷ filter accepting (judged_in ss since)) (filter accepting (judged_in ss since))) (ap is_accepting h.0.1)
    ∙ ap (λ (l : List Find). s.found ∷ l) (own-accepted vehicle size ss since (after_stay vehicle size s p) h.1)

-- SO EACH ACCEPTANCE is that of the next of its stays, or of the other's entering
pub accepted-of : (t : Truths) (c : Card) (log : RunLog) (vehicle : Registration) (size : ℕ) (ss : List Stay) (since : List Find) (p : Shown) → AreJudged vehicle size ss since p → OfOne t c (judged_told log) (judged_in ss since) → OfOne t c (acceptances_told log) (found_of_all ss)
accepted-of t c log vehicle size ss since p judged of = record {
  others = filter accepting of.others;
  merged =
      subst (λ (l : List Find). AreMerged l (found_of_all ss) (filter accepting of.others)) (accepted-told log.finds)
      (subst (λ (l : List Find). AreMerged (filter accepting (judged_told log)) l (filter accepting of.others)) (own-accepted vehicle size ss since p judged) (merged-filter accepting (judged_told log) (judged_in ss since) of.others of.merged));
  theirs = all-passed (t.entered (other c)) accepting of.others of.theirs;
}
