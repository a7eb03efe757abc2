-- An entry by hand that is among some, is among others.
use Rattle.std.proofs.Common.{◌≡◌, inl, inr, ⊎_elim, ◌/◌, Bool, true, false, cond, List, [], ◌∷◌, sym, ◌∙◌, ap, subst, arith}
use Rattle.std.specs.Prelude.{◌⊎◌, Contains}
use Rattle.std.proofs.lemmas.List.Elements.{Contains-append_left, Contains-append_right, Contains-append_cases, Contains-push, Contains-push_cases}
use Rattle.activity_codec.specs.declared.entries.Manual.{Manual}
use Rattle.card_image.specs.card_retention.Expected.{WordDay}
use Rattle.card_image.specs.card_retention.Retains.{is_day}
use Rattle.card_image.specs.card_retention.ByHand.{hands_in}
use Rattle.hand_model.specs.Written.{IsPartOf}

none_there : (x : Manual) → Contains [] x → ⊥
none_there x has = omega (arith, has.1)

at_head : (y : Manual) (xs : List Manual) → Contains (y ∷ xs) y
at_head y xs = Contains-append_left (y ∷ []) xs y (Contains-push [] y)

behind_head : (y : Manual) (xs : List Manual) (x : Manual) → Contains xs x → Contains (y ∷ xs) x
behind_head y xs x has = Contains-append_right (y ∷ []) xs x has

head_or_behind : (y : Manual) (xs : List Manual) (x : Manual) → Contains (y ∷ xs) x → (y ≡ x) ⊎ Contains xs x
head_or_behind y xs x has = ⊎_elim
    (λ one. ⊎_elim (λ none. absurd (none_there x none)) (λ same. inl same) (Contains-push_cases [] y x one))
    (λ rest. inr rest) (Contains-append_cases (y ∷ []) xs x has)

pub part_contains : (some all : List Manual) (x : Manual) → IsPartOf some all → Contains some x → Contains all x
part_contains [] all x p has = absurd (none_there x has)
part_contains (s ∷ some) [] x p has = absurd p
part_contains (s ∷ some) (y ∷ all) x p has = ⊎_elim
    (λ is. ⊎_elim
    (λ same. subst (λ (z : Manual). Contains (y ∷ all) z) (sym is.0 ∙ same) (at_head y all))
    (λ rest. behind_head y all x (part_contains some all x is.1 rest)) (head_or_behind s some x has))
    (λ on. behind_head y all x (part_contains (s ∷ some) all x on has)) p

pub in_contains : (ws : List WordDay) (es : List Manual) (x : Manual) → is_day (x.minute / 1440) ws ≡ true → Contains es x → Contains (hands_in ws es) x
in_contains ws [] x is has = absurd (none_there x has)
in_contains ws (e ∷ es) x is has = ⊎_elim
    (λ same. subst (λ (z : Manual). Contains (hands_in ws (e ∷ es)) z) same (here (ap (λ (z : Manual). is_day (z.minute / 1440) ws) same ∙ is)))
    (λ rest. by (is_day (e.minute / 1440) ws) (in_contains ws es x is rest)) (head_or_behind e es x has)
  where
    here : is_day (e.minute / 1440) ws ≡ true → Contains (hands_in ws (e ∷ es)) e
    here there = subst (λ (b : Bool). Contains (cond b (e ∷ hands_in ws es) (hands_in ws es)) e) (sym there) (at_head e (hands_in ws es))

    by : (b : Bool) → Contains (hands_in ws es) x → Contains (cond b (e ∷ hands_in ws es) (hands_in ws es)) x
    by true rest = behind_head e (hands_in ws es) x rest
    by false rest = rest
