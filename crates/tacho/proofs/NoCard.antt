-- What stands for no card is no valid card, and no call fails on it that leaves it as it was.
use Rattle.std.proofs.Common.{◌≡◌, ◌∙◌, ℕ, ◌+◌, ◌-◌, ◌/◌, ◌≤◌, ◌<◌, Bool, true, false, Option, Some, None, List, replicate, take, is_some, refl, ap, sym, arith, lit<, lit≤, inl}
use Rattle.std.proofs.Math.Nat.{le-max_left}
use Rattle.std.proofs.lemmas.List.{drop-replicate, take-replicate}
use Rattle.card_layout.specs.Images.{bytes_at}
use Rattle.card_layout.specs.declared.files.TheConstants.{LARGEST_IMAGE}
use Rattle.card_layout.specs.Application.{first_bad_field, application_in}
use Rattle.card_image.specs.Own.{IsOwnValid}
use Rattle.tach_media.specs.Medium.{State, IsCoherent, Rose, last_count, LeavesOnly, Unchanged, Reads, KeepsBroken, HasCause, revivable, most_writes}
use Rattle.run_promise.specs.Opening.{BeginsAs}
use Rattle.run_promise.specs.Between.{devices}
use Rattle.recorder_with_cards.specs.Words.{HaveTime}
use Rattle.run_opening.proofs.Told.{valid-sizes}
use Rattle.recorder_with_cards.specs.Ends.{BeginAs}
use Rattle.tacho.specs.Alone.{StartsAs}
use Rattle.tacho.specs.Blank.{zeros, no_image, blank_state}

-- zeros at any place
pub zeros-read : (n place len : ℕ) → place + len ≤ n → replicate len 0 ≡ bytes_at (zeros n) place len
unfolding zeros
zeros-read n place len inside = sym (ap (take len) (drop-replicate place n 0) ∙ take-replicate len (n - place) 0 (omega (arith, inside)))

ten-zeros : first_bad_field (replicate 10 0) ≡ Some 1
unfolding first_bad_field
ten-zeros = refl

-- a card type of 0
pub no-valid : IsOwnValid no_image → ⊥
no-valid valid =
    let zero_fields : replicate 10 0 ≡ application_in no_image = zeros-read LARGEST_IMAGE 33 10 (omega arith) in
    let bad : first_bad_field (application_in no_image) ≡ Some 1 = sym (ap first_bad_field zero_fields) ∙ ten-zeros in
    let none = sym bad ∙ valid-sizes no_image valid in
    cc

-- as long as nothing was to be written no call has failed
pub never-failed : (before after : Bool) → before ≡ false → (blank_state after).clock ≡ (blank_state before).clock → Rose (blank_state before).faults (blank_state after).faults → ⊥
never-failed true after is same rose = cc
never-failed false true is same rose = let e : 1 ≡ 0 = same in omega (arith, e)
never-failed false false is same rose = omega (arith, rose)

-- its clock does not come to its end
pub blank-time : (broken : Bool) → (blank_state broken).clock < last_count
blank-time true = lit< tt
blank-time false = lit< tt

-- WHAT ITS CALLS LEAVE: nothing but what was there
leaves-blank : (old new : Bool) (R : List ℕ → List ℕ → Type 0) → (blank_state old).clock ≤ (blank_state new).clock → LeavesOnly (blank_state old) (blank_state new) R
leaves-blank old new R later = record {
  size = refl;
  behind = refl;
  writable = refl;
  layers = refl;
  tells = refl;
  later = later;
  since = λ t c le left. inl left;
  now = λ c left. inl left;
  keeps = λ t c le left. left;
}

-- it tells of no breakdown
keeps-blank : (old new : Bool) → (blank_state old).clock ≤ (blank_state new).clock → KeepsBroken (blank_state old) (blank_state new)
keeps-blank old new later = record { later = later; told = λ t n low told. told }

-- a call that fails has broken it for good
pub blank-broken : (old : Bool) → HasCause (blank_state old) (blank_state true) true
blank-broken true = record { works = refl; broken = λ is. refl; faults = lit≤ tt; fault = λ is. lit≤ tt; breakdowns = lit≤ tt; breaks = λ works is. lit≤ tt; unbroken = λ no. absurd (cc); already = λ is. refl; once = λ low. lit≤ tt; tells = keeps-blank true true (lit≤ tt) }
blank-broken false = record { works = refl; broken = λ is. refl; faults = lit≤ tt; fault = λ is. lit≤ tt; breakdowns = lit≤ tt; breaks = λ works is. lit≤ tt; unbroken = λ no. absurd (cc); already = λ is. absurd (cc); once = λ low. absurd (omega (arith, low)); tells = keeps-blank false true (lit≤ tt) }

blank-works : HasCause (blank_state false) (blank_state false) false
blank-works = record { works = refl; broken = λ is. absurd (cc); faults = lit≤ tt; fault = λ no. absurd (cc); breakdowns = lit≤ tt; breaks = λ works no. absurd (cc); unbroken = λ is. refl; already = λ is. refl; once = λ low. lit≤ tt; tells = keeps-blank false false (lit≤ tt) }

pub blank-revived : (broken failed : Bool) → broken ≡ failed → HasCause (revivable (blank_state broken)) (blank_state broken) failed
blank-revived true true is = record { works = refl; broken = λ no. refl; faults = lit≤ tt; fault = λ same. lit≤ tt; breakdowns = lit≤ tt; breaks = λ works same. lit≤ tt; unbroken = λ no. absurd (cc); already = λ no. refl; once = λ low. lit≤ tt; tells = record { later = lit≤ tt; told = λ t n low told. told } }
blank-revived false false is = blank-works
blank-revived true false is = absurd (cc)
blank-revived false true is = absurd (cc)

-- a read
pub blank-reads : (broken failed : Bool) → broken ≡ failed → Reads (blank_state broken) (blank_state broken) failed
blank-reads true true is = record { same = λ no. refl; leaves = leaves-blank true true Unchanged (lit≤ tt); clock = refl; cause = blank-broken true }
blank-reads false false is = record { same = λ no. refl; leaves = leaves-blank false false Unchanged (lit≤ tt); clock = refl; cause = blank-works }
blank-reads true false is = absurd (cc)
blank-reads false true is = absurd (cc)

-- a write
pub blank-writes : (old : Bool) (R : List ℕ → List ℕ → Type 0) → LeavesOnly (blank_state old) (blank_state true) R
blank-writes true R = leaves-blank true true R (lit≤ tt)
blank-writes false R = leaves-blank false true R (lit≤ tt)

pub blank-few : (old : Bool) (len : ℕ) → (blank_state true).clock ≤ (blank_state old).clock + most_writes len
blank-few true len = omega arith
blank-few false len = let one : 1 ≤ most_writes len = le-max_left 1 ((len + 254) / 255) in omega (arith, one)

pub blank-stays : (broken : Bool) (R : List ℕ → List ℕ → Type 0) → LeavesOnly (blank_state broken) (blank_state broken) R
blank-stays true R = leaves-blank true true R (lit≤ tt)
blank-stays false R = leaves-blank false false R (lit≤ tt)

-- THE DEVICES OF A RUN on the unit alone: each begins with its image
one-image : (x : List ℕ) (unit : State) → IsCoherent unit → StartsAs x unit → BeginsAs x unit
one-image x unit whole alone = record { tells = by unit.image refl alone.tells; only = alone.only }
  where
    by : (o : Option (List ℕ)) → unit.image ≡ o → is_some o ≡ true → unit.image ≡ Some x
    by (Some y) is tells = is ∙ ap Some (alone.only y (whole.counts_now unit.clock y (omega arith) (whole.is_left y is)))
    by None is tells = absurd (cc)

pub begins-alone : (x : List ℕ) (unit : State) (a b : Bool) → IsCoherent unit → StartsAs x unit → BeginAs x no_image no_image (devices unit (blank_state a) (blank_state b))
begins-alone x unit a b whole alone = record {
  of_unit = one-image x unit whole alone;
  of_a = record { tells = refl; only = λ c left. sym left };
  of_b = record { tells = refl; only = λ c left. sym left };
}

pub time-alone : (unit : State) (a b : Bool) → unit.clock < last_count → HaveTime (devices unit (blank_state a) (blank_state b))
time-alone unit a b time = record { unit = time; card_a = blank-time a; card_b = blank-time b }
