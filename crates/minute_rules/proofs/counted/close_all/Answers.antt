use Rattle.std.proofs.Common.{◌≡◌, ◌∙◌, ℕ, ◌+◌, ◌<◌, List, [], ◌∷◌, ◌++◌, length, refl, ap, sym, subst, arith, append_assoc, length-append}
use Rattle.std.specs.Prelude.{map, slice_index_or, slice_set}
use Rattle.std.specs.List.{AllByRecursion}
use Rattle.std.proofs.lemmas.List.{map-append, length-map}
use Rattle.minute_rules.specs.declared.counted.Counted.{Counted}
use Rattle.minute_rules.specs.Counted.{Fits, closed, no_second}
use Rattle.minute_rules.proofs.Fitting.{all-at}
use Rattle.minute_rules.proofs.counted.close_all.Goals as goal

-- the entry behind some others
at-seam : (front back : List Counted) (c d : Counted) (i : ℕ) → length front ≡ i → slice_index_or (front ++ c ∷ back) i d ≡ c
at-seam [] back c d i e = rw (← e) refl
at-seam (f ∷ front) back c d i e = rw (← e) (at-seam front back c d (length front) refl)

set-seam : (front back : List Counted) (c x : Counted) (i : ℕ) → length front ≡ i → slice_set (front ++ c ∷ back) i x ≡ front ++ x ∷ back
set-seam [] back c x i e = rw (← e) refl
set-seam (f ∷ front) back c x i e = rw (← e) (ap (λ (ys : List Counted). f ∷ ys) (set-seam front back c x (length front) refl))

-- what is left has a first entry
first-left : (front back whole : List Counted) (i : ℕ) → whole ≡ front ++ back → length front ≡ i → i < length whole → (c : Counted) × (rest : List Counted) × (back ≡ c ∷ rest)
first-left front [] whole i is long lt = absurd (omega (arith, lt, ap length is, length-append front [], long))
first-left front (c ∷ rest) whole i is long lt = (c, rest, refl)

pub close-requires : goal.close-requires
close-requires g c =
    let v = c.loop-i.invariant in
    let front = v.0 in
    let f = first-left v.0 v.1 c.args.minutes.now c.loop-i.i v.2 v.3 c.loop-i-test.true in
    let here : c.loop-i.minutes ≡ map (closed c.args.act) front ++ f.0 ∷ f.1 = v.4 ∙ ap (λ (ys : List Counted). map (closed c.args.act) front ++ ys) f.2 in
    let at : slice_index_or c.loop-i.minutes c.loop-i.i no_second ≡ f.0 = ap (λ (ys : List Counted). slice_index_or ys c.loop-i.i no_second) here ∙ at-seam (map (closed c.args.act) front) f.1 f.0 no_second c.loop-i.i (length-map front (closed c.args.act) ∙ v.3) in
    let whole : c.args.minutes.now ≡ front ++ f.0 ∷ f.1 = v.2 ∙ ap (λ (ys : List Counted). front ++ ys) f.2 in
    let fits : Fits 4294967295 f.0 = all-at 4294967295 front f.1 f.0 (subst (AllByRecursion (Fits 4294967295)) whole c.requires) in
    rw at fits.driver

pub loop-i-preserved : goal.loop-i-preserved
loop-i-preserved g c =
    let v = c.loop-i.invariant in
    let front = v.0 in
    let f = first-left v.0 v.1 c.args.minutes.now c.loop-i.i v.2 v.3 c.loop-i-test.true in
    let here : c.loop-i.minutes ≡ map (closed c.args.act) front ++ f.0 ∷ f.1 = v.4 ∙ ap (λ (ys : List Counted). map (closed c.args.act) front ++ ys) f.2 in
    let long : length (map (closed c.args.act) front) ≡ c.loop-i.i = length-map front (closed c.args.act) ∙ v.3 in
    let at : slice_index_or c.loop-i.minutes c.loop-i.i no_second ≡ f.0 = ap (λ (ys : List Counted). slice_index_or ys c.loop-i.i no_second) here ∙ at-seam (map (closed c.args.act) front) f.1 f.0 no_second c.loop-i.i long in
    let set : slice_set c.loop-i.minutes c.loop-i.i c.close.new.self ≡ map (closed c.args.act) (front ++ f.0 ∷ []) ++ f.1 =
    ap (λ (ys : List Counted). slice_set ys c.loop-i.i c.close.new.self) here
    ∙ set-seam (map (closed c.args.act) front) f.1 f.0 c.close.new.self c.loop-i.i long
    ∙ ap (λ (x : Counted). map (closed c.args.act) front ++ x ∷ f.1) (c.close.ensures ∙ ap (closed c.args.act) at)
    ∙ sym (append_assoc (map (closed c.args.act) front) (closed c.args.act f.0 ∷ []) f.1)
    ∙ ap (λ (ys : List Counted). ys ++ f.1) (sym (map-append (closed c.args.act) front (f.0 ∷ []))) in
    (front ++ f.0 ∷ [], f.1, v.2 ∙ ap (λ (ys : List Counted). front ++ ys) f.2 ∙ sym (append_assoc front (f.0 ∷ []) f.1), length-append front (f.0 ∷ []) ∙ ap (λ (k : ℕ). k + 1) v.3, set, omega (arith, c.tick.ensures, v.5))
