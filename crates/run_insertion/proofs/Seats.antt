-- The rows of the cards behind an acceptance.
use Rattle.std.proofs.Common.{◌≡◌, ℕ, ◌<◌, Option, Some, None, IfSome, Bool, true, List, refl, ap, subst, sym, ◌∙◌}
use Rattle.std.specs.Prelude.{option_map, is_some, Result, Ok, Err}
use Rattle.activity_codec.specs.declared.values.Slot.{Slot}
use Rattle.trace_model.specs.declared.Card.{Card}
use Rattle.trace_model.specs.declared.Card.TheVariants.{A, B}
use Rattle.tach_media.specs.Medium.{State}
use Rattle.tacho_types.specs.CardNumber.{card_number_bytes}
use Rattle.tacho_types.specs.declared.card_number.FullCardNumber.{FullCardNumber}
use Rattle.device_calls.specs.unit_owed.Rows.{IsRowAt}
use Rattle.device_calls.specs.device_rule.Views.{other}
use Rattle.run_crew.specs.declared.cards.Accepted.{Accepted}
use Rattle.run_crew.specs.declared.cards.Known.{Known}
use Rattle.run_crew.specs.declared.cabin.Cabin.{Cabin}
use Rattle.run_crew.specs.Cards.{known_of, session_of}
use Rattle.run_crew.specs.Cabin.{with_accepted, with_sizes_of}
use Rattle.card_layout.specs.declared.files.Application.{Application}
use Rattle.card_layout.specs.declared.command.CardState.{CardState}
use Rattle.card_layout.specs.Application.{application_in}
use Rattle.card_commands.specs.Ports.{IsPort, IsJudged}
use Rattle.card_validity.specs.card_image.Own.{own_sizes}
use Rattle.card_validity.specs.declared.looking.CardLook.{CardLook}
use Rattle.card_session.specs.Sessions.{Session}
use Rattle.run_minutes.specs.declared.keeper.Keeper.{Keeper}
use Rattle.run_minutes.specs.Keeping.{HasItsRow, CardMayBeCalled}
use Rattle.run_insertion.specs.declared.lines.Entering.{Entering}
use Rattle.run_insertion.specs.Entered.{IsSeatedBy}

-- where a card is seated, it has the row that was begun, and the other one, whose number is spared, has its row still
pub rows-seated : (slot : Slot) (which card : Card) (number : FullCardNumber) (row : ℕ) (accepted : Accepted) (cabin : Cabin) (U V : State) → row < 8 → IfSome V.image (IsRowAt row (card_number_bytes number))
    → ((r : ℕ) (n : List ℕ) → option_map (λ (s : FullCardNumber). card_number_bytes s) (known_of cabin.cards (other which)).number ≡ Some n → IfSome U.image (IsRowAt r n) → IfSome V.image (IsRowAt r n))
    → HasItsRow cabin.cards U card → HasItsRow (with_accepted slot which number row accepted cabin).cards V card
rows-seated slot A A number row accepted cabin U V low mine spares h = record { number = number; told = refl; low = low; row = mine }
rows-seated slot B B number row accepted cabin U V low mine spares h = record { number = number; told = refl; low = low; row = mine }
rows-seated slot A B number row accepted cabin U V low mine spares h = record { number = h.number; told = h.told; low = h.low; row = spares cabin.cards.b.row (card_number_bytes h.number) (ap (λ (o : Option FullCardNumber). option_map (λ (s : FullCardNumber). card_number_bytes s) o) h.told) h.row }
rows-seated slot B A number row accepted cabin U V low mine spares h = record { number = h.number; told = h.told; low = h.low; row = spares cabin.cards.a.row (card_number_bytes h.number) (ap (λ (o : Option FullCardNumber). option_map (λ (s : FullCardNumber). card_number_bytes s) o) h.told) h.row }

pub row-seated : (slot : Slot) (which : Card) (number : FullCardNumber) (row : ℕ) (accepted : Accepted) (cabin : Cabin) (V : State) → row < 8 → IfSome V.image (IsRowAt row (card_number_bytes number)) → HasItsRow (with_accepted slot which number row accepted cabin).cards V which
row-seated slot A number row accepted cabin V low mine = record { number = number; told = refl; low = low; row = mine }
row-seated slot B number row accepted cabin V low mine = record { number = number; told = refl; low = low; row = mine }

-- ---- the card may be called

-- what holds of anything holds of what there is
pub if-any : {T : Type 0} (o : Option T) {P : Type 0} → P → IfSome o (λ (a : T). P)
if-any None p = tt
if-any (Some a) p = p

abbrev as-told : Application → Result Application ℕ
as-told app = Ok app

abbrev as-bad : ℕ → Result Application ℕ
as-bad field = Err field

ready-by : (known : Known) (app : Application) (chip : CardState) (card : State) → known.sizes ≡ Ok app → IsPort app None chip card → (told : Application) → known.sizes ≡ Ok told → IsPort told None chip card
ready-by known app chip card sizes port told is = subst (λ (a : Application). IsPort a None chip card) (one app told (sym sizes ∙ is)) port
  where
    one : (a b : Application) → as-told a ≡ as-told b → a ≡ b
    one a b same = cc

bare-known : (known : Known) (app : Application) (chip : CardState) (card : State) → known.accepted ≡ None → known.sizes ≡ Ok app → IsPort app None chip card → CardMayBeCalled known chip card
bare-known known app chip card none sizes port = record {
  is_known = record {
    sized = subst (λ (o : Option Accepted). IfSome o (λ a. known.sizes ≡ Ok a.session.application)) (sym none) tt;
    numbered = subst (λ (o : Option Accepted). IfSome o (λ a. is_some known.number ≡ true)) (sym none) tt;
  };
  port = ready-by known app chip card sizes port;
  works = subst (λ (o : Option Accepted). IfSome o (λ a. card.works ≡ true)) (sym none) tt;
}

bare-ready : (which : Card) (cabin : Cabin) (app : Application) (chip : CardState) (card : State) → session_of cabin.cards which ≡ None → (known_of cabin.cards which).sizes ≡ Ok app → IsPort app None chip card → CardMayBeCalled (known_of cabin.cards which) chip card
bare-ready A cabin app chip card none sizes port = bare-known cabin.cards.a app chip card none sizes port
bare-ready B cabin app chip card none sizes port = bare-known cabin.cards.b app chip card none sizes port

card-seated : (slot : Slot) (which : Card) (number : FullCardNumber) (row : ℕ) (accepted : Accepted) (cabin : Cabin) (app : Application) (chip : CardState) (card : State) → (known_of cabin.cards which).sizes ≡ Ok app → accepted.session.application ≡ app → IsPort app None chip card → card.works ≡ true
    → CardMayBeCalled (known_of (with_accepted slot which number row accepted cabin).cards which) chip card
card-seated slot A number row accepted cabin app chip card sizes session port works = record {
  is_known = record { sized = sizes ∙ ap (λ (a : Application). Ok a) (sym session); numbered = refl };
  port = ready-by (record cabin.cards.a { number = Some number; row = row; accepted = Some accepted }) app chip card sizes port;
  works = works;
}
card-seated slot B number row accepted cabin app chip card sizes session port works = record {
  is_known = record { sized = sizes ∙ ap (λ (a : Application). Ok a) (sym session); numbered = refl };
  port = ready-by (record cabin.cards.b { number = Some number; row = row; accepted = Some accepted }) app chip card sizes port;
  works = works;
}

module _ (look : CardLook) (session : Session) (row : ℕ) (e : Entering) (failed : Bool) (k v : Keeper) (noted noted_after : ℕ) (unit : Option (List ℕ)) where
  pub seated-ready : (entry : Option ℕ) (app : Application) (chip : CardState) (card : State) → IsSeatedBy look session row e failed k v noted noted_after unit entry → session_of k.cabin.cards e.which ≡ None → (known_of k.cabin.cards e.which).sizes ≡ Ok app → session.application ≡ app
      → IsPort app None chip card → card.works ≡ true → CardMayBeCalled (known_of v.cabin.cards e.which) chip card
  seated-ready None app chip card s none sizes by port works = subst (λ (q : Keeper). CardMayBeCalled (known_of q.cabin.cards e.which) chip card) (sym s.1) (bare-ready e.which k.cabin app chip card none sizes port)
  seated-ready (Some entry) app chip card s none sizes by port works = subst (λ (q : Keeper). CardMayBeCalled (known_of q.cabin.cards e.which) chip card) (sym s.1) (card-seated e.slot e.which look.number row _ k.cabin app chip card sizes by port works)

  pub seated-minute : (entry : Option ℕ) → IsSeatedBy look session row e failed k v noted noted_after unit entry → v.cabin.slots.minute ≡ k.cabin.slots.minute
  seated-minute None s = ap (λ (q : Keeper). q.cabin.slots.minute) s.1
  seated-minute (Some entry) s = ap (λ (q : Keeper). q.cabin.slots.minute) s.1

-- a card whose sizes are bad
not-told : (field : ℕ) (app : Application) → as-bad field ≡ Ok app → ⊥
not-told field app is = cc

pub unsized-ready : (which : Card) (cabin : Cabin) (field : ℕ) (chip : CardState) (card : State) → session_of cabin.cards which ≡ None → CardMayBeCalled (known_of (with_sizes_of which (Err field) cabin).cards which) chip card
unsized-ready A cabin field chip card none = record {
  is_known = record {
    sized = subst (λ (o : Option Accepted). IfSome o (λ a. as-bad field ≡ Ok a.session.application)) (sym none) tt;
    numbered = subst (λ (o : Option Accepted). IfSome o (λ a. is_some cabin.cards.a.number ≡ true)) (sym none) tt;
  };
  port = λ app is. absurd (not-told field app is);
  works = subst (λ (o : Option Accepted). IfSome o (λ a. card.works ≡ true)) (sym none) tt;
}
unsized-ready B cabin field chip card none = record {
  is_known = record {
    sized = subst (λ (o : Option Accepted). IfSome o (λ a. as-bad field ≡ Ok a.session.application)) (sym none) tt;
    numbered = subst (λ (o : Option Accepted). IfSome o (λ a. is_some cabin.cards.b.number ≡ true)) (sym none) tt;
  };
  port = λ app is. absurd (not-told field app is);
  works = subst (λ (o : Option Accepted). IfSome o (λ a. card.works ≡ true)) (sym none) tt;
}

-- ---- the sizes that were read are those of its image

module _ (app : Application) where
  own-told : (x : List ℕ) → IsJudged (application_in x) (Ok app) → own_sizes x ≡ app
  unfolding own_sizes
  own-told x judged = sym judged.1

  own-by : (o : Option (List ℕ)) → IfSome o (λ x. IsJudged (application_in x) (Ok app)) → IfSome o (λ x. own_sizes x ≡ app)
  own-by None judged = tt
  own-by (Some x) judged = own-told x judged

  pub own-read : (o p : Option (List ℕ)) → p ≡ o → IfSome o (λ x. IsJudged (application_in x) (Ok app)) → IfSome p (λ x. own_sizes x ≡ app)
  own-read o p same judged = subst (λ (q : Option (List ℕ)). IfSome q (λ x. own_sizes x ≡ app)) (sym same) (own-by o judged)
