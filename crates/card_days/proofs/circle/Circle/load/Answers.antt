use Rattle.std.proofs.Common.{◌≡◌, ◌+◌, ◌<◌, ◌≤◌, ℕ, List, Option, Some, IfSome, true, false, Result, length, arith, refl, sym, ◌∙◌, ap, subst}
use Rattle.std.specs.Prelude.{IfErr}
use Rattle.tach_media.specs.Medium.{bytes_at}
use Rattle.tach_media.proofs.Runs.{both_told, reads_then}
use Rattle.card_model.specs.Bytes.{number}
use Rattle.card_model.specs.Image.{StringShape, IsStringShape, IsPlace, HoldsDays, oldest_pointer, newest_pointer, circle_of}
use Rattle.card_model.specs.Walk.{days_of}
use Rattle.card_model.specs.Checks.{first_failing, first_bad, is_pointer, is_empty, day_checks, distance_of}
use Rattle.card_model.proofs.Walking.{distance_is}
use Rattle.card_days.specs.declared.circle.Circle.{Circle}
use Rattle.card_days.specs.declared.fault.DaysFault.{DaysFault}
use Rattle.card_days.specs.Loading.{shape_of, IfBadDays}
use Rattle.card_days.proofs.LoadWalk.{pointer_is, bad_oldest, bad_newest, bad_days, empty_holds}
use Rattle.card_days.proofs.Told.{from_told, err_is, bad_weaker}
use Rattle.card_days.proofs.circle.Circle.load.Goals as goal

pub returns-then-not-is_pointer-clause-bad : goal.returns-then-not-is_pointer-clause-bad
returns-then-not-is_pointer-clause-bad g c =
    let s = shape_of c.args.range in
    let o = c.in_ok-oldest.oldest in
    let none : c.is_pointer.result ≡ false = grind (arith, c.if-not-is_pointer.true) in
    let test : is_pointer s.size o ≡ false = subst (λ (t : StringShape). is_pointer t.size o ≡ false) c.of-days.ensures.shape (sym c.is_pointer.ensures ∙ none) in
    from_told (g.M.Medium.state c.args.medium.now).image _ _ c.in_ok-oldest.ensures.value (λ x was value. bad_oldest s x (subst (λ (p : ℕ). is_pointer s.size p ≡ false) value test))

pub returns-then-not-is_pointer-2-clause-bad : goal.returns-then-not-is_pointer-2-clause-bad
returns-then-not-is_pointer-2-clause-bad g c =
    let s = shape_of c.args.range in
    let o = c.in_ok-oldest.oldest in
    let n = c.in_ok-newest.newest in
    let image = (g.M.Medium.state c.args.medium.now).image in
    let one : c.is_pointer.result ≡ true = grind (arith, c.if-not-is_pointer.false) in
    let none : c.is_pointer-2.result ≡ false = grind (arith, c.if-not-is_pointer-2.true) in
    let o_test : is_pointer s.size o ≡ true = subst (λ (t : StringShape). is_pointer t.size o ≡ true) c.of-days.ensures.shape (sym c.is_pointer.ensures ∙ one) in
    let n_test : is_pointer s.size n ≡ false = subst (λ (t : StringShape). is_pointer t.size n ≡ false) c.of-days.ensures.shape (sym c.is_pointer-2.ensures ∙ none) in
    let newest = subst (λ (m : Option (List ℕ)). IfSome m (λ x. n ≡ number (bytes_at x (c.args.range.base + 2) 2))) (c.in_ok-oldest.ensures.reads.same refl) c.in_ok-newest.ensures.value in
    both_told image (λ x. first_bad s x ≡ Some 2) c.in_ok-oldest.ensures.value newest (λ x was o_is n_is.
    bad_newest s x (subst (λ (p : ℕ). is_pointer s.size p ≡ true) o_is o_test) (subst (λ (p : ℕ). is_pointer s.size p ≡ false) n_is n_test))

pub returns-then-branch-clause-days : goal.returns-then-branch-clause-days
returns-then-branch-clause-days g c =
    let s = shape_of c.args.range in
    let o = c.in_ok-oldest.oldest in
    let n = c.in_ok-newest.newest in
    let b = c.in_ok-is_empty.field-0 in
    let image = (g.M.Medium.state c.args.medium.now).image in
    let two = reads_then c.in_ok-oldest.ensures.reads c.in_ok-newest.ensures.reads in
    let one : c.is_pointer.result ≡ true = grind (arith, c.if-not-is_pointer.false) in
    let other : c.is_pointer-2.result ≡ true = grind (arith, c.if-not-is_pointer-2.false) in
    let o_test : is_pointer s.size o ≡ true = subst (λ (t : StringShape). is_pointer t.size o ≡ true) c.of-days.ensures.shape (sym c.is_pointer.ensures ∙ one) in
    let n_test : is_pointer s.size n ≡ true = subst (λ (t : StringShape). is_pointer t.size n ≡ true) c.of-days.ensures.shape (sym c.is_pointer-2.ensures ∙ other) in
    let shape : IsStringShape s = subst (λ (t : StringShape). IsStringShape t) c.of-days.ensures.shape c.of-days.ensures.is in
    let newest = subst (λ (m : Option (List ℕ)). IfSome m (λ x. n ≡ number (bytes_at x (c.args.range.base + 2) 2))) (c.in_ok-oldest.ensures.reads.same refl) c.in_ok-newest.ensures.value in
    let empty = subst (λ (t : StringShape). IfSome image (λ x. o ≡ oldest_pointer t x → n ≡ newest_pointer t x → b ≡ is_empty t x)) c.of-days.ensures.shape
    (subst (λ (m : Option (List ℕ)). IfSome m (λ x. o ≡ oldest_pointer c.of-days.result x → n ≡ newest_pointer c.of-days.result x → b ≡ is_empty c.of-days.result x)) (two.same refl) c.in_ok-is_empty.ensures.empty) in
    let places = both_told image (λ x. (o ≡ oldest_pointer s x) × (n ≡ newest_pointer s x)) c.in_ok-oldest.ensures.value newest (λ x was a b. (a, b)) in
    both_told image (λ x. HoldsDays s x (days_of s x)) places empty (λ x was at_places none.
    let inside : s.base + (4 + s.size) ≤ length x = omega (arith, c.requires.inside, c.requires.low, (g.met.M.Medium.coherent c.args.medium.now).sized x was) in
    empty_holds s x (subst (λ (p : ℕ). is_pointer s.size p ≡ true) at_places.0 o_test) (subst (λ (p : ℕ). is_pointer s.size p ≡ true) at_places.1 n_test) shape inside (sym (none at_places.0 at_places.1) ∙ c.if-branch.true))

pub returns-in_err-check_days-clause-bad : goal.returns-in_err-check_days-clause-bad
returns-in_err-check_days-clause-bad g c =
    let s = shape_of c.args.range in
    let o = c.in_ok-oldest.oldest in
    let n = c.in_ok-newest.newest in
    let b = c.in_ok-is_empty.field-0 in
    let reach = c.distance-reach.result in
    let image = (g.M.Medium.state c.args.medium.now).image in
    let f = c.in_err-check_days.field-0.0 in
    let two = reads_then c.in_ok-oldest.ensures.reads c.in_ok-newest.ensures.reads in
    let three = reads_then two c.in_ok-is_empty.ensures.reads in
    let one : c.is_pointer.result ≡ true = grind (arith, c.if-not-is_pointer.false) in
    let other : c.is_pointer-2.result ≡ true = grind (arith, c.if-not-is_pointer-2.false) in
    let some : b ≡ false = grind (arith, c.if-branch.false) in
    let o_test : is_pointer s.size o ≡ true = subst (λ (t : StringShape). is_pointer t.size o ≡ true) c.of-days.ensures.shape (sym c.is_pointer.ensures ∙ one) in
    let n_test : is_pointer s.size n ≡ true = subst (λ (t : StringShape). is_pointer t.size n ≡ true) c.of-days.ensures.shape (sym c.is_pointer-2.ensures ∙ other) in
    let place : IsPlace s.size o reach n = subst (λ (t : StringShape). IsPlace t.size o reach n) c.of-days.ensures.shape c.distance-reach.ensures.place in
    let reach_below = subst (λ (t : StringShape). reach < t.size) c.of-days.ensures.shape c.distance-reach.ensures.below in
    let newest = subst (λ (m : Option (List ℕ)). IfSome m (λ x. n ≡ number (bytes_at x (c.args.range.base + 2) 2))) (c.in_ok-oldest.ensures.reads.same refl) c.in_ok-newest.ensures.value in
    let empty = subst (λ (t : StringShape). IfSome image (λ x. o ≡ oldest_pointer t x → n ≡ newest_pointer t x → b ≡ is_empty t x)) c.of-days.ensures.shape
    (subst (λ (m : Option (List ℕ)). IfSome m (λ x. o ≡ oldest_pointer c.of-days.result x → n ≡ newest_pointer c.of-days.result x → b ≡ is_empty c.of-days.result x)) (two.same refl) c.in_ok-is_empty.ensures.empty) in
    let places = both_told image (λ x. (o ≡ oldest_pointer s x) × (n ≡ newest_pointer s x) × (is_empty s x ≡ false)) (both_told image (λ x. (o ≡ oldest_pointer s x) × (n ≡ newest_pointer s x)) c.in_ok-oldest.ensures.value newest (λ x was a b. (a, b))) empty
    (λ x was at_places none. (at_places.0, at_places.1, sym (none at_places.0 at_places.1) ∙ some)) in
    subst (λ (res : Result Circle DaysFault). IfErr res (λ e. IfBadDays e (λ p. IfSome image (λ x. first_bad s x ≡ Some p)))) (sym (err_is c.from_residual-in_err-check_days.result f c.from_residual-in_err-check_days.ensures.1))
    (bad_weaker f _ _ c.in_err-check_days.ensures.bad (λ p bad.
    let bad_too = subst (λ (t : StringShape). IfSome image (λ x. o ≡ oldest_pointer t x → first_failing (day_checks 984 t.size o reach 0 0 0 (circle_of t x)) ≡ Some p)) c.of-days.ensures.shape
    (subst (λ (m : Option (List ℕ)). IfSome m (λ x. o ≡ oldest_pointer c.of-days.result x → first_failing (day_checks 984 c.of-days.result.size o reach 0 0 0 (circle_of c.of-days.result x)) ≡ Some p)) (three.same refl) bad) in
    both_told image (λ x. first_bad s x ≡ Some p) places bad_too (λ x was at_places fails.
    let o_pointer = pointer_is s.size o o_test in
    let n_pointer = pointer_is s.size n n_test in
    bad_days s x (subst (λ (q : ℕ). is_pointer s.size q ≡ true) at_places.0 o_test) (subst (λ (q : ℕ). is_pointer s.size q ≡ true) at_places.1 n_test) at_places.2
    ∙ ap (λ (q : ℕ). first_failing (day_checks 984 s.size q (distance_of s.size q (newest_pointer s x)) 0 0 0 (circle_of s x))) (sym at_places.0)
    ∙ ap (λ (q : ℕ). first_failing (day_checks 984 s.size o (distance_of s.size o q) 0 0 0 (circle_of s x))) (sym at_places.1)
    ∙ ap (λ (k : ℕ). first_failing (day_checks 984 s.size o k 0 0 0 (circle_of s x))) (distance_is s.size o n reach o_pointer.below n_pointer.below reach_below place)
    ∙ fails at_places.0)))
