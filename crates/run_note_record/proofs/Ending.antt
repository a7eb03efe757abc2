-- What has ended with the second before is noted behind all else.
use Rattle.std.proofs.Common.{◌≡◌, ℕ, Bool, true, false, cond, List, [], ◌∷◌, ◌++◌, Contains, nat_eq, refl, ap, sym, subst, ◌∙◌, arith, append-nil}
use Rattle.std.specs.List.{AllByRecursion}
use Rattle.std.proofs.lemmas.Bool.{eqb-false}
use Rattle.run_devices.specs.log_model.Course.{went}
use Rattle.run_devices.specs.event_model.declared.kinds.TheConstants.{DRIVING_WITHOUT_CARD, OVER_SPEEDING}
use Rattle.run_devices.specs.event_model.Events.{Event, Seen, seen_of, seen_spans}
use Rattle.run_devices.specs.safety_model.Safe.{Devices}
use Rattle.run_events.specs.unit_events.Shown.{all_kinds}
use Rattle.run_events.proofs.unit_events.Shows.{each-kind}
use Rattle.run_devices.proofs.run_course.Told.{lit-told}
use Rattle.run_events.specs.Shown.{by_kind}
use Rattle.run_events.specs.Seconds.{span_before, bares_by, overs_by, seen_next}
use Rattle.run_events.specs.Choice.{plain}
use Rattle.run_events.proofs.Later.{seen-same}
use Rattle.run_events.proofs.Notes.{OfKind, of-itself, of-other, bares-kind, overs-kind}
use Rattle.run_note_record.specs.Evented.{limit_in, brought_now}
use Rattle.run_note_record.specs.Noting.{Waking, Acting, Ended, is_told}
use Rattle.run_note_record.specs.EventsSoFar.{WhatEndsIsAdded}
use Rattle.run_note_record.proofs.Lines.{same-before}
use Rattle.run_note_record.proofs.Noting.{by-more}
use Rattle.run_note_record.proofs.Adding.{power-now, next-as}

there-of : (known : ℕ) (es : List Event) → Contains all_kinds known → OfKind known es → AllByRecursion (λ (e : Event). Contains all_kinds e.kind) es
there-of known [] there all = tt
there-of known (e ∷ es) there all = (subst (Contains all_kinds) (sym all.0) there, there-of known es there all.1)

all-both : {X : Type 0} (P : X → Type 0) (xs ys : List X) → AllByRecursion P xs → AllByRecursion P ys → AllByRecursion P (xs ++ ys)
all-both P [] ys hx hy = hy
all-both P (x ∷ xs) ys hx hy = (hx.0, all-both P xs ys hx.1 hy)

asleep : Ended ≡ Waking → ⊥
asleep is = absurd (cc)

apart : (a b : ℕ) → nat_eq a b ≡ false → a ≡ b → ⊥
apart a b off is = eqb-false a b off is

module _ (bares overs : List Event) (bare : OfKind DRIVING_WITHOUT_CARD bares) (over : OfKind OVER_SPEEDING overs) where
  other-kind : (kind : ℕ) → (DRIVING_WITHOUT_CARD ≡ kind → ⊥) → (OVER_SPEEDING ≡ kind → ⊥) → by_kind (bares ++ overs) kind ≡ []
  other-kind kind no_bare no_over = by-more bares overs kind ∙ (λ i. of-other DRIVING_WITHOUT_CARD kind bares no_bare bare i ++ of-other OVER_SPEEDING kind overs no_over over i)

  bare-kind : by_kind (bares ++ overs) 0x04 ≡ bares
  bare-kind = by-more bares overs 0x04 ∙ (λ i. of-itself DRIVING_WITHOUT_CARD bares bare i ++ of-other OVER_SPEEDING 0x04 overs (apart 0x07 0x04 refl) over i) ∙ append-nil bares

  over-kind : by_kind (bares ++ overs) 0x07 ≡ overs
  over-kind = by-more bares overs 0x07 ∙ (λ i. of-other DRIVING_WITHOUT_CARD 0x07 bares (apart 0x04 0x07 refl) bare i ++ of-itself OVER_SPEEDING overs over i)

  -- with what was noted before
  module _ (more : List Event) (brought : ℕ → List Event) (told : (kind : ℕ) → Contains all_kinds kind → is_told Acting kind ≡ true → by_kind more kind ≡ brought kind) (untold : (kind : ℕ) → Contains all_kinds kind → is_told Acting kind ≡ false → by_kind more kind ≡ [])
      (bares_are : brought 0x04 ≡ bares) (overs_are : brought 0x07 ≡ overs) where
    abbrev IsTold : ℕ → Type 0
    IsTold kind = by_kind (more ++ (bares ++ overs)) kind ≡ brought kind

    as-before : (kind : ℕ) → Contains all_kinds kind → is_told Acting kind ≡ true → (DRIVING_WITHOUT_CARD ≡ kind → ⊥) → (OVER_SPEEDING ≡ kind → ⊥) → IsTold kind
    as-before kind among is no_bare no_over = by-more more (bares ++ overs) kind ∙ ap (λ (l : List Event). by_kind more kind ++ l) (other-kind kind no_bare no_over) ∙ append-nil (by_kind more kind) ∙ told kind among is

    pub told-all : (kind : ℕ) → Contains all_kinds kind → IsTold kind
    told-all = each-kind IsTold
        (as-before 0x01 (0, omega arith, refl) refl (apart 0x04 0x01 refl) (apart 0x07 0x01 refl))
        (as-before 0x03 (1, omega arith, refl) refl (apart 0x04 0x03 refl) (apart 0x07 0x03 refl))
        (by-more more (bares ++ overs) 0x04 ∙ (λ i. untold 0x04 (2, omega arith, refl) refl i ++ bare-kind i) ∙ sym bares_are)
        (as-before 0x05 (3, omega arith, refl) refl (apart 0x04 0x05 refl) (apart 0x07 0x05 refl))
        (as-before 0x06 (4, omega arith, refl) refl (apart 0x04 0x06 refl) (apart 0x07 0x06 refl))
        (by-more more (bares ++ overs) 0x07 ∙ (λ i. untold 0x07 (5, omega arith, refl) refl i ++ over-kind i) ∙ sym overs_are)
        (as-before 0x08 (6, omega arith, refl) refl (apart 0x04 0x08 refl) (apart 0x07 0x08 refl))
        (as-before 0x40 (7, omega arith, refl) refl (apart 0x04 0x40 refl) (apart 0x07 0x40 refl))

pub ends-added : (d : Devices) → WhatEndsIsAdded d
ends-added d o done p span s b at log r =
    let x : Seen = seen_next log done s in
    let spans : List (List Seen) = seen_spans (seen_of p.log done) in
    let front : List Seen = span_before spans x in
    let limit : ℕ = limit_in o in
    let bares_of : List Event = bares_by front (x ∷ []) in
    let overs_of : List Event = overs_by limit front (x ∷ []) in
    let lit : x.told.lit ≡ true = ap (λ (z : Seen). z.told.lit) (next-as o done p span s b log r.goes) ∙ (lit-told log (went p.log done).before s (power-now o done p span s b)).lit in
    let bare : OfKind DRIVING_WITHOUT_CARD bares_of = subst (λ (c : Bool). OfKind DRIVING_WITHOUT_CARD (cond c bares_of [])) lit (bares-kind limit (λ u w. 0) plain log spans x) in
    let over : OfKind OVER_SPEEDING overs_of = subst (λ (c : Bool). OfKind OVER_SPEEDING (cond c overs_of [])) lit (overs-kind limit (λ u w. 0) plain log spans x) in
    let spans_are : seen_spans (seen_of log done) ≡ spans = ap seen_spans (seen-same p.log log done (same-before o done p b.followed s log r.goes)) in
    record {
      kinds = all-both (λ (e : Event). Contains all_kinds e.kind) bares_of overs_of (there-of DRIVING_WITHOUT_CARD bares_of (2, omega arith, refl) bare) (there-of OVER_SPEEDING overs_of (5, omega arith, refl) over);
      on = λ more v. (
          let bares_are : brought_now o log done s v.here v.own 0x04 ≡ bares_of = (λ i. cond (lit i) (bares_by (span_before (spans_are i) x) (x ∷ [])) []) in
          let overs_are : brought_now o log done s v.here v.own 0x07 ≡ overs_of = (λ i. cond (lit i) (overs_by limit (span_before (spans_are i) x) (x ∷ [])) []) in
          record {
            here = v.here;
            own = v.own;
            told = λ kind among told. told-all bares_of overs_of bare over more (brought_now o log done s v.here v.own) v.told v.untold bares_are overs_are kind among;
            untold = λ kind among off. absurd (never off);
            fits = record { put_in = v.fits.put_in; still = v.fits.still; before = v.fits.before; waking = λ is. absurd (asleep is) };
            open_now = v.open_now;
            exact_now = v.exact_now;
          });
    }
  where
    never : true ≡ false → ⊥
    never wrong = absurd (cc)
