-- The rules at the opening of a run, of what the views show there.
use Rattle.std.proofs.Common.{All, ◌≡◌, inl, ⊎_elim, ℕ, ◌<◌, ◌≤◌, cond, None, Option, List, [], ◌++◌, refl, ap, subst, ◌∙◌, sym, arith, nat_lt}
use Rattle.std.proofs.lemmas.List.Elements.{All-weaker, All-nil}
use Rattle.std.proofs.lemmas.List.{append-nil}
use Rattle.std.proofs.Math.Nat.{le-max_right}
use Rattle.activity_codec.specs.declared.entries.Entry.{Entry}
use Rattle.trace_model.specs.declared.Card.{Card}
use Rattle.history_model.specs.Minutes.{HistoryMinute}
use Rattle.history_model.specs.Presence.{CardStart, trimmed_by}
use Rattle.card_image.specs.View.{CardView, Held}
use Rattle.device_rule.specs.Views.{UnitView, owed, newest_with}
use Rattle.device_rule.specs.Device.{Seen, SettledViews, LeavesViews, Nothing, IsFresh}
use Rattle.history_model.specs.Book.{not_begun, Between, IsFork}
use Rattle.device_rule.specs.Rules.{Shows, UnitHolds, Brings, Meets, Out, comes_from, CardDark}
use Rattle.history_model.proofs.Books.{history-none}
use Rattle.device_rule.proofs.Pairs.{newest-more, owed-above, had-meets}
use Rattle.device_rule.proofs.UnitLaws.{showed-shown}
use Rattle.unit_model.specs.Days.{ShownDay}

-- a unit that leaves one view only, with these days
pub opened-unit : (Fills : Option HistoryMinute → List HistoryMinute → List ShownDay → Type 0) (U : Seen UnitView) (u : UnitView) (due : ℕ) → ((v : UnitView) → U.may_leave v → v ≡ u) → ((v : UnitView) → U.left_since U.clock v → v ≡ u) →
    Fills None [] u.days → u.last < due → UnitHolds Fills u.last U.clock due not_begun U
opened-unit Fills U u due now since days late = record {
  later = omega arith;
  order = record {
    begins = late;
    now = record { rising = tt; until = All-nil (λ (i : HistoryMinute). i.minute < due) };
    lost = All-nil (Between u.last due);
    forks = All-nil (IsFork []);
  };
  now = λ v on. subst (Shows Fills u.last not_begun) (sym (now v on)) shows;
  since = λ v on. showed-shown Fills u.last not_begun v (subst (Shows Fills u.last not_begun) (sym (since v on)) shows);
}
  where
    shows : Shows Fills u.last not_begun u
    shows = record { next = None; comes = tt; days = days; sure = All-nil (λ (i : HistoryMinute). i.minute ≤ u.last); mark = inl refl }

module _ (c : Card) (start : CardStart) (Keeps : ℕ → List Entry → Held → Type 0) where
  pub opened-pair : (u : UnitView) (x : CardView) → Brings Keeps c start u x → Meets c start Keeps [] Out u x
  opened-pair u x b = record {
    more = [];
    left = subst (λ (zs : List Entry). Keeps (comes_from start Out zs x) (start.entries ++ []) x.held) b.owed
        (subst (λ (zs : List Entry). Keeps (comes_from start Out start.owed x) zs x.held) (sym b.entries ∙ sym (append-nil start.entries)) b.kept);
    had = subst (All (λ (e : Entry). e.minute ≤ x.mark)) (sym b.entries ∙ sym (append-nil start.entries)) b.marked;
    whole = sym b.owed ∙ sym (append-nil start.owed) ∙ ap (λ (zs : List Entry). start.owed ++ zs) (sym (history-none c));
    newest = newest-more x start start.entries [] (owed c u x) (All-weaker (λ (e : Entry). x.mark < e.minute) (λ e. start.mark ≤ e.minute) (λ e lt. omega (arith, lt, b.mark)) (owed c u x) (owed-above c u x))
        (b.newest ∙ ap (trimmed_by start) (sym b.entries ∙ sym (append-nil start.entries)));
    accepted = le-max_right start.word (newest_with x (owed c u x));
    mark = omega (arith, b.mark);
    bound = b.bound;
    words = λ closed. omega (arith, b.word ∙ ap (λ (s : ℕ). cond (nat_lt 0 s) 0 x.word) closed);
  }

  -- a card that leaves one view only, and a unit that does
  pub opened-card : (U : Seen UnitView) (X : Seen CardView) (u : UnitView) (x : CardView) → ((v : UnitView) → U.may_leave v → v ≡ u) → ((y : CardView) → X.may_leave y → y ≡ x) → ((y : CardView) → X.left_since X.clock y → y ≡ x) →
      Brings Keeps c start u x → CardDark c start Keeps X.clock not_begun Out U X
  opened-card U X u x now there since b = record {
    meets = λ v y on left. subst (λ (w : UnitView). Meets c start Keeps [] Out w y) (sym (now v on)) (subst (Meets c start Keeps [] Out u) (sym (there y left)) (opened-pair u x b));
    later = omega arith;
    since = λ y left. had-meets c start Keeps not_begun Out u y refl (All-nil (λ (i : HistoryMinute). i.minute ≤ u.last)) (subst (Meets c start Keeps [] Out u) (sym (since y left)) (opened-pair u x b));
  }

-- A DEVICE THAT WAS NOT WRITTEN leaves what it left at the opening, also after calls that only read
pub fresh-opened : {V : Type 0} (s : Seen V) (start : V) → SettledViews s → ((v : V) → s.may_leave v → v ≡ start) → IsFresh s.clock start s
fresh-opened s start settled one v left = one v (settled v left)

pub fresh-read : {V : Type 0} (began : ℕ) (start : V) (old new : Seen V) → began ≤ old.clock → LeavesViews old new Nothing → IsFresh began start old → IsFresh began start new
fresh-read began start old new le run fresh v left = ⊎_elim (λ was. fresh v was) (λ none. absurd none.2) (run.since began v le left)
