-- A card's rule, as the unit goes on and as the card does.
use Rattle.std.proofs.Common.{◌≡◌, ◌⊎◌, inl, inr, ⊎_elim, ℕ, ◌<◌, ◌≤◌, max, Option, None, List, [], ◌∷◌, ◌++◌, All, refl, ap, subst, ◌∙◌, sym, arith, append_assoc}
use Rattle.std.proofs.lemmas.List.Elements.{All-weaker, All-append}
use Rattle.std.proofs.lemmas.List.{append-nil}
use Rattle.std.specs.Prelude.{option_to_list}
use Rattle.activity_codec.specs.declared.entries.Entry.{Entry}
use Rattle.trace_model.specs.declared.Card.{Card}
use Rattle.history_model.specs.Minutes.{up_to, HistoryMinute, on_card, card_history}
use Rattle.history_model.specs.Presence.{CardStart, closed_at, trimmed_by}
use Rattle.minute_model.specs.Activity.{last}
use Rattle.card_image.specs.View.{CardView, Held}
use Rattle.device_rule.specs.Views.{UnitView, row, owed}
use Rattle.device_rule.specs.Device.{Seen, LeavesViews, Nothing}
use Rattle.history_model.specs.Book.{Book, all, broken}
use Rattle.device_rule.specs.Rules.{Meets, Had, IsOpen, Standing, Out, In, Torn, MeetsStanding, CardDark, CardRule}
use Rattle.history_model.proofs.Filters.{all-front, all-back}
use Rattle.device_rule.proofs.Owing.{owed-beside}
use Rattle.history_model.proofs.Books.{history-append, history-one, history-none}
use Rattle.device_rule.proofs.Pairs.{meets-owed, had-meets, above, last-append, closed-last, max-under}
use Rattle.unit_owed.specs.Owed.{Row}

-- a bound that later entries only raise
pub trimmed-more : (start : CardStart) (front es : List Entry) (k : ℕ) → All (λ e. k < e.minute) es → k ≤ trimmed_by start front → k ≤ trimmed_by start (front ++ es)
trimmed-more start front [] k each le = subst (λ (zs : List Entry). k ≤ trimmed_by start zs) (sym (append-nil front)) le
trimmed-more start front (e ∷ es) k each le =
    subst (λ (z : Option Entry). k ≤ max start.mark (closed_at z)) (sym (last-append front e es)) (max-under k start.mark (closed_at (last (e ∷ es)))
    (closed-last k e es (All-weaker (λ (d : Entry). k < d.minute) (λ d. k ≤ d.minute) (λ d lt. omega (arith, lt)) (e ∷ es) each)))

pub opened-still : (c : Card) (s newest floor : ℕ) (u v : UnitView) (x : CardView) → (row c v).session ≡ (row c u).session → owed c v x ≡ owed c u x → IsOpen c s newest floor u x → IsOpen c s newest floor v x
opened-still c s newest floor u v x session same o = record { opened = o.opened; same = o.same; taken = session ∙ o.taken; mark = o.mark; recent = subst (λ (zs : List Entry). All (λ e. floor ≤ e.minute) zs) (sym same) o.recent }

module _ (c : Card) (start : CardStart) (Keeps : ℕ → List Entry → Held → Type 0) where
  -- AN IMAGE SINCE THE START
  -- as the unit begins to keep a minute
  pub had-broken : (b : Book) (i : HistoryMinute) (x : CardView) → b.maybe ≡ None → (on_card c i ≡ []) ⊎ (x.mark < i.minute) → Had c start Keeps b x → Had c start Keeps (broken i b) x
  had-broken b i x none fits h = record {
    more = h.more;
    rest = h.rest;
    next = h.next;
    left = h.left;
    whole = h.whole;
    lacks = All-append (λ (e : Entry). x.mark < e.minute) h.rest (card_history c (i ∷ []))
        (all-front (λ (e : Entry). x.mark < e.minute) h.rest (card_history c (option_to_list b.maybe)) h.lacks)
        (subst (All (λ (e : Entry). x.mark < e.minute)) (sym (history-one c i)) (above c i x.mark fits));
    bound = h.bound;
  }

  nothing-more : (d : Book) (x : CardView) (rest : List Entry) → d.maybe ≡ None → All (λ e. x.mark < e.minute) rest → All (λ e. x.mark < e.minute) (rest ++ card_history c (option_to_list d.maybe))
  nothing-more d x rest none each = subst (All (λ (e : Entry). x.mark < e.minute))
      (sym (ap (λ (o : Option HistoryMinute). rest ++ card_history c (option_to_list o)) none ∙ ap (λ (zs : List Entry). rest ++ zs) (history-none c) ∙ append-nil rest)) each

  -- as it is settled that the unit has the minute, or not
  pub had-settled : (b d : Book) (x : CardView) → d.maybe ≡ None → (d.sure ≡ b.sure) ⊎ (d.sure ≡ all b) → Had c start Keeps b x → Had c start Keeps d x
  had-settled b d x none (inl same) h = record {
    more = h.more;
    rest = h.rest;
    next = h.next;
    left = h.left;
    whole = ap (λ (zs : List HistoryMinute). start.owed ++ card_history c zs) same ∙ h.whole;
    lacks = nothing-more d x h.rest none (all-front (λ (e : Entry). x.mark < e.minute) h.rest (card_history c (option_to_list b.maybe)) h.lacks);
    bound = subst (λ (zs : List HistoryMinute). x.mark ≤ trimmed_by start (start.entries ++ (start.owed ++ card_history c zs))) (sym same) h.bound;
  }
  had-settled b d x none (inr joined) h = record {
    more = h.more;
    rest = h.rest ++ last_one;
    next = h.next;
    left = h.left;
    whole = whole ∙ ap (λ (zs : List Entry). zs ++ last_one) h.whole ∙ append_assoc h.more h.rest last_one;
    lacks = nothing-more d x (h.rest ++ last_one) none h.lacks;
    bound = subst (λ (zs : List Entry). x.mark ≤ trimmed_by start zs) (append_assoc start.entries (start.owed ++ card_history c b.sure) last_one ∙ ap (λ (zs : List Entry). start.entries ++ zs) (sym whole))
        (trimmed-more start (start.entries ++ (start.owed ++ card_history c b.sure)) last_one x.mark (all-back (λ (e : Entry). x.mark < e.minute) h.rest last_one h.lacks) h.bound);
  }
    where
      last_one : List Entry
      last_one = card_history c (option_to_list b.maybe)

      whole : start.owed ++ card_history c d.sure ≡ (start.owed ++ card_history c b.sure) ++ last_one
      whole = ap (λ (zs : List HistoryMinute). start.owed ++ card_history c zs) joined ∙ ap (λ (zs : List Entry). start.owed ++ zs) (history-append c b.sure (option_to_list b.maybe)) ∙ sym (append_assoc start.owed (card_history c b.sure) last_one)

  -- THE UNIT GOES ON
  pub dark-unit : {U V : Seen UnitView} {X : Seen CardView} (R : UnitView → UnitView → Type 0) (began : ℕ) (b : Book) (s : Standing) → CardDark c start Keeps began b s U X → LeavesViews U V R →
      ((u v : UnitView) (x : CardView) → U.may_leave u → R u v → X.may_leave x → Meets c start Keeps (all b) s u x → Meets c start Keeps (all b) s v x) → CardDark c start Keeps began b s V X
  dark-unit {U} {V} {X} R began b s dark run step = record {
    meets = λ v x on there. ⊎_elim (λ was. dark.meets v x was there) (λ here. step here.0 v x here.1 here.2 there (dark.meets here.0 x here.1 there)) (run.now v on);
    later = dark.later;
    since = dark.since;
  }

  -- how a card stands, where the row's session and what is owed stay
  pub stands-unit : (U V : Seen UnitView) (X : Seen CardView) (began : ℕ) (s : Standing) (due : List Entry) →
      ((v : UnitView) → V.may_leave v → (u : UnitView) × U.may_leave u × ((row c v).session ≡ (row c u).session) × ((x : CardView) → X.may_leave x → owed c v x ≡ owed c u x)) →
      MeetsStanding c start began s due U X → MeetsStanding c start began s due V X
  stands-unit U V X began Out due from stands = tt
  stands-unit U V X began (In s newest) due from stands = (
    stands.0,
    stands.1,
    λ v x on there.
        let was = from v on in let i = stands.2 was.0 x was.1 there in
        record { open_ = opened-still c s newest 0 was.0 v x was.2 (was.3 x there) i.open_; due_ = was.3 x there ∙ i.due_; words = i.words },
  )
  stands-unit U V X began (Torn s newest floor) due from stands = (
    stands.0,
    λ v x on there.
        let was = from v on in opened-still c s newest floor was.0 v x was.2 (was.3 x there) (stands.1 was.0 x was.1 there),
  )

  -- a step that leaves the row and the last-kept minute as they are
  pub dark-beside : {U V : Seen UnitView} {X : Seen CardView} (R : UnitView → UnitView → Type 0) (began : ℕ) (b : Book) (s : Standing) → LeavesViews U V R → ((u v : UnitView) → R u v → (v.last ≡ u.last) × (row c v ≡ row c u)) →
      CardDark c start Keeps began b s U X → CardDark c start Keeps began b s V X
  dark-beside {U} {V} {X} R began b s run beside dark = dark-unit R began b s dark run (λ u v x on here there m.
      meets-owed c start Keeps (all b) (all b) s u v x (owed-beside c u v x (beside u v here).0 (beside u v here).1) (ap (λ (k : ℕ). up_to k (all b)) (beside u v here).0) m)

  pub rule-beside : {U V : Seen UnitView} {X : Seen CardView} (R : UnitView → UnitView → Type 0) (began : ℕ) (b : Book) (s : Standing) (mine due : List Entry) → LeavesViews U V R → ((u v : UnitView) → R u v → (v.last ≡ u.last) × (row c v ≡ row c u)) →
      CardRule c start Keeps began b s mine due U X → CardRule c start Keeps began b s mine due V X
  rule-beside {U} {V} {X} R began b s mine due run beside rule = record {
    dark = dark-beside R began b s run beside rule.dark;
    cells = λ v on. let was = from v on in let k = rule.cells was.0 was.1 in
        record { olds = k.olds; cells = ap (λ (r : Row). r.cells) was.3 ∙ k.cells; kept = subst (λ (n : ℕ). All (λ (e : Entry). e.minute ≤ n) k.olds) (sym was.2) k.kept };
    stands = stands-unit U V X began s due (λ v on. let was = from v on in (was.0, was.1, ap (λ (r : Row). r.session) was.3, λ x there. owed-beside c was.0 v x was.2 was.3)) rule.stands;
  }
    where
      from : (v : UnitView) → V.may_leave v → (u : UnitView) × U.may_leave u × (v.last ≡ u.last) × (row c v ≡ row c u)
      from v on = ⊎_elim (λ was. (v, was, refl, refl)) (λ here. (here.0, here.1, (beside here.0 v here.2).0, (beside here.0 v here.2).1)) (run.now v on)

  -- calls on the unit that only read
  pub read-card : {U V : Seen UnitView} {X : Seen CardView} (began : ℕ) (b : Book) (s : Standing) (mine due : List Entry) → LeavesViews U V Nothing → CardRule c start Keeps began b s mine due U X → CardRule c start Keeps began b s mine due V X
  read-card {U} {V} {X} began b s mine due run rule = rule-beside Nothing began b s mine due run (λ u v never. absurd never) rule

  -- THE CARD GOES ON, over a unit that tells its image
  pub dark-card : {U : Seen UnitView} {X Y : Seen CardView} (R : CardView → CardView → Type 0) (began : ℕ) (b : Book) (s t : Standing) (u : UnitView) → U.may_leave u → b.maybe ≡ None → All (λ i. i.minute ≤ u.last) b.sure →
      CardDark c start Keeps began b s U X → LeavesViews X Y R → ((u : UnitView) (x : CardView) → U.may_leave u → X.may_leave x → Meets c start Keeps (all b) s u x → Meets c start Keeps (all b) t u x) →
      ((u : UnitView) (x y : CardView) → U.may_leave u → X.may_leave x → R x y → Meets c start Keeps (all b) s u x → Meets c start Keeps (all b) t u y) → CardDark c start Keeps began b t U Y
  dark-card {U} {X} {Y} R began b s t u left none sure dark run still step = record {
    meets = λ v y on there. ⊎_elim (λ was. still v y on was (dark.meets v y on was)) (λ here. step v here.0 y on here.1 here.2 (dark.meets v here.0 on here.1)) (run.now y there);
    later = omega (arith, dark.later, run.later);
    since = λ y there. ⊎_elim (dark.since y) (λ here. had-meets c start Keeps b t u y none sure (step u here.0 y left here.1 here.2 (dark.meets u here.0 left here.1))) (run.since began y dark.later there);
  }

  -- a card that only reads, or is revived, while it is out
  pub look-dark : {U : Seen UnitView} {X Y : Seen CardView} (began : ℕ) (b : Book) (s : Standing) → LeavesViews X Y Nothing → CardDark c start Keeps began b s U X → CardDark c start Keeps began b s U Y
  look-dark {U} {X} {Y} began b s run dark = record {
    meets = λ u y on there. dark.meets u y on (⊎_elim (λ was. was) (λ never. absurd never.2) (run.now y there));
    later = omega (arith, dark.later, run.later);
    since = λ y there. dark.since y (⊎_elim (λ was. was) (λ never. absurd never.2) (run.since began y dark.later there));
  }

  pub look-card : {U : Seen UnitView} {X Y : Seen CardView} (began : ℕ) (b : Book) (mine : List Entry) → LeavesViews X Y Nothing → CardRule c start Keeps began b Out mine [] U X → CardRule c start Keeps began b Out mine [] U Y
  look-card {U} {X} {Y} began b mine run rule = record { dark = look-dark {U = U} {X = X} {Y = Y} began b Out run rule.dark; cells = rule.cells; stands = tt }
