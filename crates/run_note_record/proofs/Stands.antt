-- Entries that stand for notes, as a log and the power spans go on, and as notes are added.
use Rattle.std.proofs.Common.{◌≡◌, inl, inr, ⊎_elim, ℕ, suc, ◌≤◌, Bool, true, false, cond, not, Option, Some, None, IfSome, List, [], ◌∷◌, ◌++◌, length, filter, refl, ap, sym, subst, ◌∙◌, arith, append-nil}
use Rattle.std.specs.List.{AllByRecursion}
use Rattle.std.proofs.lemmas.Grind.{flat_map-append}
use Rattle.std.proofs.lemmas.List.Sums.{fold-append}
use Rattle.run_devices.specs.trace_model.declared.Card.{Card}
use Rattle.run_events.specs.gated_ring.Ring.{Shape, entry_at, with_head}
use Rattle.run_events.proofs.gated_ring.Dense.{drop_all}
use Rattle.run_devices.specs.log_model.Log.{RunLog}
use Rattle.run_devices.specs.note_model.Done.{has_failed_in}
use Rattle.run_devices.specs.note_model.Odometer.{SpanFrom, odometer_at}
use Rattle.run_devices.specs.note_model.Noted.{InsertionNote, PlaceNote, Note, with_note, place_in, insertions_of, places_of}
use Rattle.run_note_record.specs.Ringed.{Each}
use Rattle.run_devices.specs.note_model.Rings.{Holder, Stand, unsure_count, TellsWithdrawal, IsInsertion, IsPlace, is_sure_insertion, is_sure_place}

-- less is sure, and what stood for a note does
module _ {N : Type 0} (sure still : N → Bool) (Is Now : N → List ℕ → Type 0) where
  abbrev pub Weaker : N → Type 0
  Weaker n = (sure n ≡ false → still n ≡ false) × ((e : List ℕ) → Is n e → Now n e)

  pub stand-as : (notes : List N) (entries : List (List ℕ)) → AllByRecursion Weaker notes → Stand sure Is notes entries → Stand still Now notes entries
  stand-as [] entries all none = none
  stand-as (n ∷ notes) entries all (inl (e, rest, are, is, stand)) = inl (e, rest, are, all.0.1 e is, stand-as notes rest all.1 stand)
  stand-as (n ∷ notes) entries all (inr (unsure, stand)) = inr (all.0.0 unsure, stand-as notes entries all.1 stand)

  -- no more are sure
  pub unsure-as : (notes : List N) → AllByRecursion Weaker notes → unsure_count sure notes ≤ unsure_count still notes
  unsure-as [] all = omega arith
  unsure-as (n ∷ notes) all = by (sure n) (still n) all.0.0 (unsure-as notes all.1)
    where
      by : (b c : Bool) → (b ≡ false → c ≡ false) → unsure_count sure notes ≤ unsure_count still notes
          → length (cond (not b) (n ∷ filter (λ m. not (sure m)) notes) (filter (λ m. not (sure m)) notes)) ≤ length (cond (not c) (n ∷ filter (λ m. not (still m)) notes) (filter (λ m. not (still m)) notes))
      by true true less few = few
      by true false less few = omega (arith, few)
      by false true less few = absurd (let wrong : true ≡ false = less refl in cc)
      by false false less few = omega (arith, few)

  pub each-as : (notes : List N) (entries : List (List ℕ)) → AllByRecursion Weaker notes → Each Is notes entries → Each Now notes entries
  each-as [] [] all none = tt
  each-as [] (e ∷ entries) all never = never
  each-as (n ∷ notes) [] all never = never
  each-as (n ∷ notes) (e ∷ entries) all each = (all.0.1 e each.0, each-as notes entries all.1 each.1)

module _ {N : Type 0} (sure : N → Bool) (Is : N → List ℕ → Type 0) where
  pub each-stand : (notes : List N) (entries : List (List ℕ)) → Each Is notes entries → Stand sure Is notes entries
  each-stand [] [] none = refl
  each-stand [] (e ∷ entries) never = absurd never
  each-stand (n ∷ notes) [] never = absurd never
  each-stand (n ∷ notes) (e ∷ entries) each = inl (e, entries, refl, each.0, each-stand notes entries each.1)

module _ {N : Type 0} (Is : N → List ℕ → Type 0) where
  pub each-long : (notes : List N) (entries : List (List ℕ)) → Each Is notes entries → length entries ≡ length notes
  each-long [] [] none = refl
  each-long [] (e ∷ entries) never = absurd never
  each-long (n ∷ notes) [] never = absurd never
  each-long (n ∷ notes) (e ∷ entries) each = ap suc (each-long notes entries each.1)

  pub each-append : (notes more : List N) (entries others : List (List ℕ)) → Each Is notes entries → Each Is more others → Each Is (notes ++ more) (entries ++ others)
  each-append [] more [] others none h = h
  each-append [] more (e ∷ entries) others never h = absurd never
  each-append (n ∷ notes) more [] others never h = absurd never
  each-append (n ∷ notes) more (e ∷ entries) others each h = (each.0, each-append notes more entries others each.1 h)

  -- of some, then one, then more
  pub each-split : (mid : List N) (own : N) (newer : List N) (entries : List (List ℕ)) → Each Is (mid ++ own ∷ newer) entries →
      (front : List (List ℕ)) × (e : List ℕ) × (back : List (List ℕ)) × (entries ≡ front ++ e ∷ back) × Each Is mid front × Is own e × Each Is newer back
  each-split [] own newer [] never = absurd never
  each-split [] own newer (e ∷ entries) each = ([], e, entries, refl, tt, each.0, each.1)
  each-split (n ∷ mid) own newer [] never = absurd never
  each-split (n ∷ mid) own newer (e ∷ entries) each =
      let rest = each-split mid own newer entries each.1 in
      (e ∷ rest.0, rest.1, rest.2, ap (λ (l : List (List ℕ)). e ∷ l) rest.3, (each.0, rest.4), rest.5, rest.6)

all-front : {X : Type 0} (P : X → Type 0) (xs ys : List X) → AllByRecursion P (xs ++ ys) → AllByRecursion P xs
all-front P [] ys all = tt
all-front P (x ∷ xs) ys all = (all.0, all-front P xs ys all.1)

all-back : {X : Type 0} (P : X → Type 0) (xs ys : List X) → AllByRecursion P (xs ++ ys) → AllByRecursion P ys
all-back P [] ys all = all
all-back P (x ∷ xs) ys all = all-back P xs ys all.1

-- of a list with one of them
pub all-parts : {X : Type 0} (P : X → Type 0) (l older : List X) (own : X) (newer : List X) → l ≡ older ++ own ∷ newer → AllByRecursion P l → AllByRecursion P older × P own × AllByRecursion P newer
all-parts P l older own newer are all =
    let whole = subst (λ (m : List _). AllByRecursion P m) are all in
    let back = all-back P older (own ∷ newer) whole in
    (all-front P older (own ∷ newer) whole, back.0, back.1)

pub all-push : {X : Type 0} (P : X → Type 0) (xs : List X) (x : X) → AllByRecursion P xs → P x → AllByRecursion P (xs ++ x ∷ [])
all-push P [] x all here = (here, tt)
all-push P (y ∷ xs) x all here = (all.0, all-push P xs x all.1 here)

pub all-of : {X : Type 0} (P Q : X → Type 0) → ((x : X) → P x → Q x) → (xs : List X) → AllByRecursion P xs → AllByRecursion Q xs
all-of P Q turn [] all = tt
all-of P Q turn (x ∷ xs) all = (turn x all.0, all-of P Q turn xs all.1)

pub all-each : {X : Type 0} (P : X → Type 0) → ((x : X) → P x) → (xs : List X) → AllByRecursion P xs
all-each P each [] = tt
all-each P each (x ∷ xs) = (each x, all-each P each xs)

-- an entry that fills its place is what it is
pub with-whole : (r : Shape) (x : List ℕ) (i : ℕ) (head : List ℕ) → length (entry_at r x i) ≤ length head → with_head r x i head ≡ head
with-whole r x i head le = ap (λ (l : List ℕ). head ++ l) (drop_all (length head) (entry_at r x i) le) ∙ append-nil head

-- ---- notes

pub insertions-more : (notes : List Note) (n : Note) → insertions_of (notes ++ n ∷ []) ≡ with_note (insertions_of notes) n
insertions-more notes n = fold-append with_note [] notes (n ∷ [])

pub places-more : (notes : List Note) (n : Note) → places_of (notes ++ n ∷ []) ≡ places_of notes ++ place_in n
places-more notes n = flat_map-append place_in notes (n ∷ []) ∙ ap (λ (l : List PlaceNote). places_of notes ++ l) (append-nil (place_in n))

-- ---- as a log and the spans go on

module _ (log later : RunLog) (spans now : List SpanFrom) (holder : Card → Holder) (failed : (u : ℕ) → has_failed_in log u ≡ true → has_failed_in later u ≡ true) where
  unsure-still : (u : ℕ) → not (has_failed_in log u) ≡ false → not (has_failed_in later u) ≡ false
  unsure-still u is = by (has_failed_in log u) refl is
    where
      by : (b : Bool) → has_failed_in log u ≡ b → not b ≡ false → not (has_failed_in later u) ≡ false
      by true has none = ap not (failed u has)
      by false has none = let both : true ≡ false = none in cc

  withdrawal-as : (w : Option ℕ) (time odometer : ℕ) → IfSome w (λ u. odometer_at u now ≡ odometer_at u spans) → TellsWithdrawal log spans holder w time odometer → TellsWithdrawal later now holder w time odometer
  withdrawal-as None time odometer same is = is
  withdrawal-as (Some u) time odometer same is = ⊎_elim (λ tells. inl (tells.0, tells.1 ∙ sym same)) (λ cut. inr (failed u cut.0, cut.1, cut.2)) is

  pub insertion-as : (Tells More : Card → List ℕ → ℕ → Type 0) → ((c : Card) (registration : List ℕ) (time : ℕ) → Tells c registration time → More c registration time) → (i : InsertionNote) →
      (odometer_at i.accepted.second now ≡ odometer_at i.accepted.second spans) × IfSome i.withdrawn (λ u. odometer_at u now ≡ odometer_at u spans) →
      Weaker (is_sure_insertion log spans holder) (is_sure_insertion later now holder) (IsInsertion log spans holder Tells) (IsInsertion later now holder More) i
  insertion-as Tells More tells i same = (
    unsure-still i.accepted.second,
    λ e is. record {
      size = is.size;
      surname = is.surname;
      first_names = is.first_names;
      number = is.number;
      expiry = is.expiry;
      time = is.time;
      odometer = is.odometer ∙ sym same.0;
      slot = is.slot;
      withdrawal = withdrawal-as i.withdrawn _ _ same.1 is.withdrawal;
      previous = tells i.accepted.card _ _ is.previous;
      by_hand = is.by_hand;
    },
  )

  pub place-as : (p : PlaceNote) → odometer_at p.second now ≡ odometer_at p.second spans → Weaker (is_sure_place log spans holder) (is_sure_place later now holder) (IsPlace log spans holder) (IsPlace later now holder) p
  place-as p same = (
    unsure-still p.second,
    λ e is. record {
      size = is.size;
      number = is.number;
      time = is.time;
      kind = is.kind;
      country = is.country;
      region = is.region;
      odometer = is.odometer ∙ sym same;
    },
  )
