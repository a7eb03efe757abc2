-- The entries that an acceptance brought are marked.
use Rattle.std.proofs.Common.{◌≡◌, ℕ, ◌<◌, ◌≤◌, true, false, List, [], ◌∷◌, ◌++◌, All, Contains, refl, ap, subst, ◌∙◌, sym, arith, Some}
use Rattle.std.proofs.lemmas.List.{append-nil}
use Rattle.std.proofs.lemmas.List.Elements.{All-nil, All-cons, All-head, All-append, filter-append, Contains-append_left, Contains-append_right}
use Rattle.device_calls.specs.activity_codec.declared.entries.Entry.{Entry}
use Rattle.device_calls.specs.trace_model.declared.Card.{Card}
use Rattle.device_calls.specs.trace_model.declared.Card.TheVariants.{A, B}
use Rattle.device_calls.specs.run_model.declared.Device.{Device}
use Rattle.device_calls.specs.run_model.declared.Device.TheVariants.{Unit as Recorder}
use Rattle.tach_media.specs.Medium.{State, IsCoherent, IsSettled}
use Rattle.run_crew.specs.log_model.declared.lines.Mark.{Mark}
use Rattle.run_crew.specs.log_model.Causes.{device_of}
use Rattle.device_calls.specs.card_retention.Retains.{Rise}
use Rattle.device_calls.specs.card_image.View.{CardView}
use Rattle.device_calls.specs.card_image.Own.{own_view, IsOwnValid, own_sizes}
use Rattle.device_calls.specs.history_model.Minutes.{card_history}
use Rattle.device_calls.specs.history_model.Book.{Book}
use Rattle.device_calls.proofs.history_model.Filters.{filter-none, filter-whole}
use Rattle.device_calls.specs.device_rule.Views.{other}
use Rattle.device_calls.specs.device_rule.Device.{SettledViews}
use Rattle.device_calls.specs.device_rule.Marked.{of_card, HasMarked}
use Rattle.device_calls.proofs.device_rule.Holding.{acknowledged}
use Rattle.device_calls.specs.unit_rule.Unit.{is_of, marks_of, Increase}
use Rattle.device_calls.specs.unit_rule.Rule.{Started, once_mended}
use Rattle.device_calls.specs.unit_rule.Marks.{UnitFollowsBook, MarkIsKept as IsUnitHeld}
use Rattle.run_crew.specs.declared.cards.Cards.{Cards}
use Rattle.run_promise.specs.Found.{CardFound, Found, found_of}
use Rattle.device_calls.specs.unit_rule.Cards.{IsPromptOn}
use Rattle.run_promise.specs.Cards.{IsCardHeld, CardMarksHold}
use Rattle.run_promise.specs.Between.{RunLedger}
use Rattle.run_devices.specs.Told.{AreFoundCards, DevicesPowered, arranged, card_marks, with_marks}
use Rattle.run_devices.proofs.Parts.{AreParts, MarksLit, parts-of, powered-of, told-one}
use Rattle.run_devices.proofs.OnCards.{stood-now}

-- ---- which marks are of which device

own-device : (c : Card) → is_of (device_of c) (device_of c) ≡ true
own-device A = refl
own-device B = refl

other-device : (c : Card) → is_of (device_of (other c)) (device_of c) ≡ false
other-device A = refl
other-device B = refl

unit-device : (c : Card) → is_of Recorder (device_of c) ≡ false
unit-device A = refl
unit-device B = refl

-- each of them
all-marks : (P : Mark → Type 0) (c : Card) (clock : ℕ) (es : List Entry) → ((e : Entry) → Contains es e → P (record { device = device_of c; minute = e.minute; clock = clock })) → All P (card_marks c clock es)
all-marks P c clock [] each = All-nil P
all-marks P c clock (e ∷ es) each = All-cons P (record { device = device_of c; minute = e.minute; clock = clock }) (card_marks c clock es) (each e (Contains-append_left (e ∷ []) es e (0, omega arith, refl)))
    (all-marks P c clock es (λ d in_. each d (Contains-append_right (e ∷ []) es d in_)))

module _ (c : Card) (clock : ℕ) (es : List Entry) (marks : List Mark) where
  pub own-marks : marks_of (device_of c) (marks ++ card_marks c clock es) ≡ marks_of (device_of c) marks ++ card_marks c clock es
  own-marks = filter-append (λ (m : Mark). is_of (device_of c) m.device) marks (card_marks c clock es)
      ∙ ap (λ (ms : List Mark). marks_of (device_of c) marks ++ ms) (filter-whole (λ (m : Mark). is_of (device_of c) m.device) (card_marks c clock es) (all-marks (λ (m : Mark). is_of (device_of c) m.device ≡ true) c clock es (λ e in_. own-device c)))

  still : (d : Device) → is_of d (device_of c) ≡ false → marks_of d (marks ++ card_marks c clock es) ≡ marks_of d marks
  still d apart = filter-append (λ (m : Mark). is_of d m.device) marks (card_marks c clock es)
      ∙ ap (λ (ms : List Mark). marks_of d marks ++ ms) (filter-none (λ (m : Mark). is_of d m.device) (card_marks c clock es) (all-marks (λ (m : Mark). is_of d m.device ≡ false) c clock es (λ e in_. apart))) ∙ append-nil (marks_of d marks)

  pub unit-marks : marks_of Recorder (marks ++ card_marks c clock es) ≡ marks_of Recorder marks
  unit-marks = still Recorder (unit-device c)

  pub other-marks : marks_of (device_of (other c)) (marks ++ card_marks c clock es) ≡ marks_of (device_of (other c)) marks
  other-marks = still (device_of (other c)) (other-device c)

-- ---- they increase

marks-rise : (c : Card) (clock : ℕ) (es : List Entry) → Rise es → Increase (card_marks c clock es)
marks-rise c clock [] rise = tt
marks-rise c clock (e ∷ []) rise = tt
marks-rise c clock (e ∷ d ∷ es) rise = (rise.0, marks-rise c clock (d ∷ es) rise.1)

first-in : (m : Mark) (ms : List Mark) → Contains (m ∷ ms) m
first-in m ms = Contains-append_left (m ∷ []) ms m (0, omega arith, refl)

increase-both : (xs ys : List Mark) → Increase xs → Increase ys → ((m : Mark) → Contains xs m → All (λ n. m.minute < n.minute) ys) → Increase (xs ++ ys)
increase-both [] ys first last apart = last
increase-both (m ∷ []) [] first last apart = tt
increase-both (m ∷ []) (n ∷ ys) first last apart = (All-head (λ (k : Mark). m.minute < k.minute) n ys (apart m (first-in m [])), last)
increase-both (m ∷ k ∷ xs) ys first last apart = (first.0, increase-both (k ∷ xs) ys first.1 last (λ n in_. apart n (Contains-append_right (m ∷ []) (k ∷ xs) n in_)))

-- ---- the unit and the other card have the marks that they had

unit-still : (s : Started) (due : ℕ) (b : Book) (marks ms : List Mark) (unit : State) → marks_of Recorder (marks ++ ms) ≡ marks_of Recorder marks → UnitFollowsBook s due b marks unit → UnitFollowsBook s due b (marks ++ ms) unit
unit-still s due b marks ms unit same h = record {
  unit_holds = h.unit_holds;
  decodes = h.decodes;
  issued = h.issued;
  rows = h.rows;
  low = h.low;
  marks_hold = subst (All (IsUnitHeld s b unit)) (sym same) h.marks_hold;
  marks_rise = subst Increase (sym same) h.marks_rise;
  marks_until = subst (All (λ (m : Mark). m.minute < due)) (sym same) h.marks_until;
}

card-still : (f : CardFound) (d : Card) (b : Book) (marks ms : List Mark) (card : State) → marks_of (device_of d) (marks ++ ms) ≡ marks_of (device_of d) marks → CardMarksHold f d b marks card → CardMarksHold f d b (marks ++ ms) card
card-still f d b marks ms card same h = record {
  held = subst (All (IsCardHeld f d b card)) (sym same) h.held;
  rise = subst Increase (sym same) h.rise;
  none = λ bad. same ∙ h.none bad;
}

-- ---- ALL OF IT, with marks of entries that the card has, each later than those that are marked

module _ (f : Found) (w : RunLedger) (cards : Cards) (c : Card) (V Y Z : State) (found : AreFoundCards f cards) (p : DevicesPowered f w cards (arranged c V Y Z)) (whole : IsCoherent Y) (settled : IsSettled Y) (valid : IsOwnValid (found_of f c).image) (began : (found_of f c).began ≤ Y.clock) (es : List Entry) (rise : Rise es)
    (sure : (e : Entry) → Contains es e → Contains ((found_of f c).start.owed ++ card_history c w.book.sure) e) (there : (y : List ℕ) → Y.may_leave y → (e : Entry) → Contains es e → e.minute ≤ (own_view y).mark)
    (prompt : (e : Entry) → Contains es e → IsPromptOn Y (record { device = device_of c; minute = e.minute; clock = Y.clock }))
    (older : (m : Mark) → Contains (marks_of (device_of c) w.marks) m → (e : Entry) → Contains es e → m.minute < e.minute) where
  parts : AreParts f w cards c V Y Z
  parts = parts-of f w cards c V Y Z p

  settled-views : SettledViews (of_card Y)
  settled-views v left = (left.0, whole.is_left left.0 (settled left.0 left.1), left.2)

  has-marked : (e : Entry) → Contains es e → HasMarked e.minute Y.clock Y
  has-marked e in_ = acknowledged (λ (x : CardView). x.mark) e.minute (of_card Y) settled-views (λ v on. subst (λ (k : CardView). e.minute ≤ k.mark) on.2 (there on.0 on.1 e in_))

  told : (y : List ℕ) × (Y.image ≡ Some y)
  told = told-one Y.image (parts.mine valid).held.tells

  one-held : (e : Entry) → Contains es e → IsCardHeld (found_of f c) c w.book Y (record { device = device_of c; minute = e.minute; clock = Y.clock })
  one-held e in_ = record { began = began; holds = has-marked e in_; prompt = prompt e in_; stood = stood-now (own_sizes (found_of f c).image) (device_of c) e.minute Y whole settled told.0 told.1; sure = (e, sure e in_, refl) }

  marks-more : MarksLit f w c Y → CardMarksHold (found_of f c) c w.book (w.marks ++ card_marks c Y.clock es) Y
  marks-more h = record {
    held = subst (All (IsCardHeld (found_of f c) c w.book Y)) (sym (own-marks c Y.clock es w.marks))
        (All-append (IsCardHeld (found_of f c) c w.book Y) (marks_of (device_of c) w.marks) (card_marks c Y.clock es) h.held (all-marks (IsCardHeld (found_of f c) c w.book Y) c Y.clock es one-held));
    rise = subst Increase (sym (own-marks c Y.clock es w.marks))
        (increase-both (marks_of (device_of c) w.marks) (card_marks c Y.clock es) h.rise (marks-rise c Y.clock es rise) (λ m in_. all-marks (λ (n : Mark). m.minute < n.minute) c Y.clock es (older m in_)));
    none = λ bad. absurd (bad valid);
  }

  pub marked-powered : DevicesPowered f (with_marks (card_marks c Y.clock es) w) cards (arranged c V Y Z)
  marked-powered = powered-of f (with_marks (card_marks c Y.clock es) w) cards c V Y Z found (record {
    unit = record { tells = parts.unit.tells; works = parts.unit.works; unit = unit-still (once_mended f.unit) w.due w.book w.marks (card_marks c Y.clock es) V (unit-marks c Y.clock es w.marks) parts.unit.unit; none = parts.unit.none };
    mine = parts.mine;
    others = parts.others;
    marks_mine = marks-more parts.marks_mine;
    marks_others = card-still (found_of f (other c)) (other c) w.book w.marks (card_marks c Y.clock es) Z (other-marks c Y.clock es w.marks) parts.marks_others;
  })
