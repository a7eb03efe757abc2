-- The first keeps of a card that were acknowledged: their entries by hand are told still over a further call on it, and a new one's are.
use Rattle.std.proofs.Common.{◌≡◌, ⊎_elim, ℕ, ◌/◌, true, Option, Some, None, List, [], ◌∷◌, ◌++◌, All, Contains, get_or, sym, subst, arith}
use Rattle.std.proofs.lemmas.List.Elements.{All-nil, All-cons, All-head, All-tail, All-weaker, All-push, Contains-get_or, Contains-append_left, Contains-append_right}
use Rattle.activity_codec.specs.declared.entries.Entry.{Entry}
use Rattle.activity_codec.specs.declared.entries.Manual.{Manual}
use Rattle.tach_media.specs.Medium.{State, IsCoherent, LeavesOnly, IsSettled}
use Rattle.log_model.specs.declared.lines.Mark.{Mark}
use Rattle.tach_media.specs.card_layout.declared.files.Application.{Application}
use Rattle.run_devices.specs.card_retention.Retains.{is_day}
use Rattle.run_devices.specs.card_retention.Shown.{sizes}
use Rattle.hand_model.specs.card_image.Fields.{card_days}
use Rattle.hand_model.specs.card_image.Own.{own_sizes}
use Rattle.hand_model.specs.ByHand.{by_hand_in}
use Rattle.hand_model.specs.Holding.{AreOfDay}
use Rattle.hand_model.specs.Written.{Hands, and_sure, and_given}
use Rattle.device_calls.specs.card_string.Each.{EachHolds}
use Rattle.device_calls.specs.card_string.Since.{HoldsSince}
use Rattle.device_calls.proofs.card_string.Images.{holds_sure}
use Rattle.run_devices.specs.run_promise.Found.{CardFound}
use Rattle.run_devices.specs.run_promise.Cards.{FirstKeep, and_first, IsFirstHeld, HandMarksHold}

-- entries by hand that are sure are told by an image that has their day
told-all : (app : Application) (image : List ℕ) (h : Hands) (brought : List Entry) (next : ℕ) (x : List ℕ) → HoldsSince app image h brought next x → (day : ℕ) → is_day day (sizes (card_days app x)) ≡ true → (hs : List Manual) → AreOfDay day hs → All (λ e. Contains h.sure e) hs
    → All (λ e. Contains (by_hand_in app x) e) hs
told-all app image h brought next x k day there [] are sure = All-nil (λ (e : Manual). Contains (by_hand_in app x) e)
told-all app image h brought next x k day there (e ∷ es) are sure =
    All-cons (λ (d : Manual). Contains (by_hand_in app x) d) e es
    (holds_sure app image h brought next x e k (All-head (λ (d : Manual). Contains h.sure d) e es sure) (subst (λ (n : ℕ). is_day n (sizes (card_days app x)) ≡ true) (sym are.0) there))
    (told-all app image h brought next x k day there es are.1 (All-tail (λ (d : Manual). Contains h.sure d) e es sure))

-- OVER A CALL whose moments hold the string
module _ (f : CardFound) (hd he : Hands) (firsts : List FirstKeep) (X Y : State) (brought : List Entry) (next : ℕ) (R : List ℕ → List ℕ → Type 0) (run : LeavesOnly X Y R)
    (made : (x y : List ℕ) → X.image ≡ Some x → R x y → HoldsSince (own_sizes f.image) f.image he brought next y) (more : (e : Manual) → Contains hd.sure e → Contains he.sure e) where
  still-held : (k : FirstKeep) → IsFirstHeld f hd X k → IsFirstHeld f he Y k
  still-held k is =
      let sure : All (λ e. Contains he.sure e) k.hands = All-weaker (λ (e : Manual). Contains hd.sure e) (λ e. Contains he.sure e) more k.hands is.sure in
      record {
        clock = omega (arith, is.clock, run.later);
        day = is.day;
        sure = sure;
        told = λ x left there. ⊎_elim
            (λ was. is.told x was there)
            (λ one. told-all (own_sizes f.image) f.image he brought next x (made one.0 x one.1 one.2) (k.mark.minute / 1440) there k.hands is.day sure)
            (run.since k.mark.clock x is.clock left);
      }

  pub hands-run : HandMarksHold f hd firsts X → HandMarksHold f he firsts Y
  hands-run h = All-weaker (IsFirstHeld f hd X) (IsFirstHeld f he Y) still-held firsts h

-- entries by hand that become sure
pub hands-sure : (f : CardFound) (hd : Hands) (hands : List Manual) (firsts : List FirstKeep) (Y : State) → HandMarksHold f (and_given hands hd) firsts Y → HandMarksHold f (and_sure hands hd) firsts Y
hands-sure f hd hands firsts Y h = All-weaker (IsFirstHeld f (and_given hands hd) Y) (IsFirstHeld f (and_sure hands hd) Y) (λ k is. record {
  clock = is.clock;
  day = is.day;
  sure = All-weaker (λ (e : Manual). Contains hd.sure e) (λ e. Contains (hd.sure ++ hands) e) (λ e at. Contains-append_left hd.sure hands e at) k.hands is.sure;
  told = is.told;
}) firsts h

-- each of a list is among them
all-there : (before hs : List Manual) → All (λ e. Contains (before ++ hs) e) hs
all-there before hs k d lt = Contains-append_right before hs (get_or hs k d) (Contains-get_or hs k d lt)

-- A FIRST KEEP THAT WAS ACKNOWLEDGED, once each image that a stop may leave holds the string with its entries by hand
pub hands-first : (f : CardFound) (hd : Hands) (hands : List Manual) (firsts : List FirstKeep) (begun : Option ℕ) (m : Mark) (Y : State) (brought : List Entry) (next began : ℕ) → IsCoherent Y → IsSettled Y → m.clock ≡ Y.clock → AreOfDay (m.minute / 1440) hands
    → EachHolds (own_sizes f.image) f.image (and_sure hands hd) brought next began Y → HandMarksHold f (and_sure hands hd) firsts Y → HandMarksHold f (and_sure hands hd) (and_first begun (record { mark = m; hands = hands }) firsts) Y
hands-first f hd hands firsts None m Y brought next began after settled at day each h =
    All-push (IsFirstHeld f (and_sure hands hd) Y) firsts (record { mark = m; hands = hands }) h (record {
      clock = omega (arith, at);
      day = day;
      sure = all-there hd.sure hands;
      told = λ x left there.
          let told : Y.image ≡ Some x = settled x (subst (λ (n : ℕ). Y.left_since n x) at left) in
          told-all (own_sizes f.image) f.image (and_sure hands hd) brought next x (each.now x (after.is_left x told)).1 (m.minute / 1440) there hands day (all-there hd.sure hands);
    })
hands-first f hd hands firsts (Some first) m Y brought next began after settled at day each h = h
