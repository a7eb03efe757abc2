-- What each entry by hand of a first keep leaves, all of them leave, and each of their moments.
use Rattle.std.proofs.Common.{◌≡◌, ◌∙◌, inl, inr, ℕ, ◌/◌, ◌<◌, true, false, Some, List, [], ◌∷◌, sym, ap, subst, arith}
use Rattle.std.proofs.lemmas.Bool.{eq-eqb}
use Rattle.activity_codec.specs.declared.entries.Manual.{Manual}
use Rattle.tach_media.specs.card_layout.declared.files.Application.{Application}
use Rattle.tach_media.specs.card_layout.Application.{IsApplication}
use Rattle.card_session.specs.card_model.Days.{Day, total}
use Rattle.card_session.specs.card_model.Changes.{date_of}
use Rattle.card_session.specs.card_model.Image.{newest_pointer}
use Rattle.card_session.specs.card_retention.Expected.{is_newest}
use Rattle.card_session.specs.card_retention.Shown.{sizes}
use Rattle.card_session.specs.card_days.Held.{tail_in}
use Rattle.card_session.proofs.card_days.Tails.{told_some}
use Rattle.hand_model.specs.card_image.Fields.{card_days, end_mark}
use Rattle.hand_model.specs.Holding.{LieBetween}
use Rattle.hand_model.proofs.OfDay.{spans}
use Rattle.card_session.specs.Telling.{is_newest_day}
use Rattle.card_session.specs.Sessions.{Session, IsSession, book_of}
use Rattle.card_session.specs.ByHand.{IsCardByHand, IsCardEntering, EndsByHand}
use Rattle.card_session.proofs.Following.{day_told}
use Rattle.card_session.proofs.Stopping.{book_days}
use Rattle.card_by_hand.specs.First.{Follows, AreEntered, IsEntering, MayFollow, AreHandsOf}
use Rattle.card_by_hand.proofs.Chain.{ends_on}

differ : true ≡ false → ⊥
differ e = cc

-- a card that a session knows whose newest day is that of a minute by value has it as its newest day
pub newest_known : (s : Session) (minute : ℕ) (x : List ℕ) → IsSession s x → EndsByHand s minute → is_newest (minute / 1440) (sizes (card_days s.application x)) ≡ true
newest_known s minute x knows ends =
    let k = knows.card.days in
    let tail : Some s.days.tail ≡ tail_in s.days.shape x (book_of s.application x).days = told_some s.days x (book_of s.application x).days k ends.some in
    let told : is_newest_day minute (Some s.days.tail) ≡ is_newest (minute / 1440) (sizes (book_of s.application x).days) =
    ap (is_newest_day minute) tail ∙ day_told 0 minute (newest_pointer s.days.shape x) (total (book_of s.application x).days) (book_of s.application x).days k.holds.ordered in
    ap (λ (ds : List Day). is_newest (minute / 1440) (sizes ds)) (sym (book_days s.application x)) ∙ sym told ∙ eq-eqb s.days.tail.head.date.0 (date_of minute) ends.day

-- ---- from a minute of the day to another, and past an entry by hand

pub first_follows : (s : Session) (before : ℕ) (e : Manual) (es : List Manual) (x : List ℕ) → MayFollow s before x → AreHandsOf s before (e ∷ es) → MayFollow s e.minute x
first_follows s before e es x may are = record {
  sizes = may.sizes;
  knows = may.knows;
  later = are.lie.0;
  clear = subst (λ (day : ℕ). is_newest day (sizes (card_days s.application x)) ≡ false → end_mark s.application x / 1440 < day) (sym are.day.0) may.clear;
}

-- behind an entry by hand the newest day is the minute's
pub behind_one : (s t : Session) (before : ℕ) (e : Manual) (es : List Manual) (x z : List ℕ) → IsApplication s.application → AreHandsOf s before (e ∷ es) → Follows s t e → IsCardByHand s t e x z → MayFollow t before z
behind_one s t before e es x z sizes are follows done =
    let low : e.minute < before = spans e.minute before es are.lie.1 in
    record {
      sizes = subst IsApplication (sym follows.application) sizes;
      knows = done.knows;
      later = omega (arith, follows.minute, low);
      clear = λ other. absurd (differ (sym (newest_known t before z done.knows (ends_on t e.minute before are.day.0 follows.ends)) ∙ other));
    }

pub rest_follows : (s t : Session) (before : ℕ) (e : Manual) (es : List Manual) (x z : List ℕ) → MayFollow s before x → AreHandsOf s before (e ∷ es) → Follows s t e → IsCardByHand s t e x z → MayFollow t before z
rest_follows s t before e es x z may are follows done = behind_one s t before e es x z may.sizes are follows done

pub rest_hands : (s t : Session) (before : ℕ) (e : Manual) (es : List Manual) → AreHandsOf s before (e ∷ es) → Follows s t e → AreHandsOf t before es
rest_hands s t before e es are follows = record { lie = subst (λ (m : ℕ). LieBetween m before es) (sym follows.minute) are.lie.1; day = are.day.1 }

-- ---- what stays past each of them stays past all

module _ (P : Application → List ℕ → Type 0) (before : ℕ)
    (step : (s t : Session) (e : Manual) (x z : List ℕ) → MayFollow s e.minute x → IsCardByHand s t e x z → P s.application x → P s.application z) where
  pub along : (es : List Manual) (s next : Session) (x y : List ℕ) → MayFollow s before x → AreHandsOf s before es → AreEntered es s next x y → P s.application x
      → P s.application y × MayFollow next before y × (next.application ≡ s.application)
  along [] s next x y may are entered p = (
    subst (λ (l : List ℕ). P s.application l) (sym entered.1) p,
    subst (λ (q : Session). MayFollow q before y) (sym entered.0) (subst (λ (l : List ℕ). MayFollow s before l) (sym entered.1) may),
    ap (λ (q : Session). q.application) entered.0,
  )
  along (e ∷ es) s next x y may are entered p =
      let t = entered.0 in
      let z = entered.1 in
      let there = step s t e x z (first_follows s before e es x may are) entered.3 p in
      let rest = along es t next z y (rest_follows s t before e es x z may are entered.2 entered.3) (rest_hands s t before e es are entered.2) entered.4 (subst (λ (a : Application). P a z) (sym entered.2.application) there) in (
        subst (λ (a : Application). P a y) entered.2.application rest.0,
        rest.1,
        rest.2 ∙ entered.2.application,
      )

  -- and what holds at each moment of one that may follow holds at each moment of them
  pub at_moment : (Q : Application → List ℕ → Type 0) → ((s : Session) (e : Manual) (x c : List ℕ) → MayFollow s e.minute x → IsCardEntering s e x c → P s.application x → Q s.application c)
      → (es : List Manual) (s : Session) (x c : List ℕ) → MayFollow s before x → AreHandsOf s before es → IsEntering es s x c → P s.application x → Q s.application c
  at_moment Q moment [] s x c may are entering p = absurd entering
  at_moment Q moment (e ∷ es) s x c may are (inl now) p = moment s e x c (first_follows s before e es x may are) now p
  at_moment Q moment (e ∷ es) s x c may are (inr behind) p =
      let t = behind.0 in
      let z = behind.1 in
      let there = step s t e x z (first_follows s before e es x may are) behind.3 p in
      subst (λ (a : Application). Q a c) behind.2.application
      (at_moment Q moment es t z c (rest_follows s t before e es x z may are behind.2 behind.3) (rest_hands s t before e es are behind.2) behind.4 (subst (λ (a : Application). P a z) (sym behind.2.application) there))
