-- The minutes of which a keeping was begun: each stays that of a span, as the spans go on.
use Rattle.std.proofs.Common.{◌≡◌, ◌⊎◌, inl, inr, ⊎_elim, ℕ, true, List, [], ◌∷◌, ◌++◌, Contains, refl, ap, sym, subst, ◌∙◌, append_assoc, append-nil}
use Rattle.minute_model.specs.declared.Rule.{Rule}
use Rattle.minute_model.specs.declared.Minute.{Minute}
use Rattle.log_model.specs.declared.lines.Break.{Break}
use Rattle.log_model.specs.Log.{RunLog, kept_after}
use Rattle.log_model.specs.Course.{ToldSecond}
use Rattle.history_model.specs.History.{decided_of}
use Rattle.history_model.specs.Growth.{closed_limit}
use Rattle.history_model.specs.Book.{Book}
use Rattle.run_unit_course.specs.Followed.{as_spans}
use Rattle.run_unit_course.specs.Legs.{Reckoned}
use Rattle.run_unit_course.specs.Lines.{tells_cut}
use Rattle.run_unit_course.proofs.Legs.{legs-alike}
use Rattle.run_unit_course.proofs.Parts.{known-more}
use Rattle.run_course.specs.Travelled.{IsReckoned, AreClosedLegs}
use Rattle.run_course.proofs.Alike.{known-closed}

-- a span of some with one more behind them is that one, or among them
snoc-parts : (ended : List (List ToldSecond)) (x : List ToldSecond) (earlier : List (List ToldSecond)) (s : List ToldSecond) (later : List (List ToldSecond)) → ended ++ x ∷ [] ≡ earlier ++ s ∷ later →
    ((ended ≡ earlier) × (x ≡ s)) ⊎ ((rest : List (List ToldSecond)) × (ended ≡ earlier ++ s ∷ rest))
snoc-parts [] x [] s later is = let one : x ≡ s = cc in inl (refl, one)
snoc-parts [] x (y ∷ []) s later is = absurd (cc)
snoc-parts [] x (y ∷ z ∷ ys) s later is = absurd (cc)
snoc-parts (e ∷ es) x [] s later is = let first : e ≡ s = cc in inr (es, ap (λ (z : List ToldSecond). z ∷ es) first)
snoc-parts (e ∷ es) x (y ∷ ys) s later is =
    let first : e ≡ y = cc in
    let rest : es ++ x ∷ [] ≡ ys ++ s ∷ later = cc in
    ⊎_elim
    (λ last. inl ((λ t. first t ∷ last.0 t), last.1))
    (λ inside. inr (inside.0, (λ t. first t ∷ inside.1 t)))
    (snoc-parts es x ys s later rest)

module _ (rule : Rule) where
  -- SPANS GO ON: each stands behind the same ones, and has decided what it had
  abbrev pub GoOn : (spans now : List (List ToldSecond)) → Type 0
  GoOn spans now = (earlier : List (List ToldSecond)) (span : List ToldSecond) (later : List (List ToldSecond)) → spans ≡ earlier ++ span ∷ later →
      (longer : List ToldSecond) × (behind : List (List ToldSecond)) × (now ≡ earlier ++ longer ∷ behind) × ((m : Minute) → Contains (decided_of rule span) m → Contains (decided_of rule longer) m)

  pub same-on : (spans now : List (List ToldSecond)) → now ≡ spans → GoOn spans now
  same-on spans now is earlier span later are = (span, later, is ∙ are, (λ m at. at))

  pub more-on : (spans now more : List (List ToldSecond)) → now ≡ spans ++ more → GoOn spans now
  more-on spans now more is earlier span later are = (span, later ++ more, is ∙ ap (λ (ss : List (List ToldSecond)). ss ++ more) are ∙ append_assoc earlier (span ∷ later) more, (λ m at. at))

  pub last-on : (ended : List (List ToldSecond)) (span longer : List ToldSecond) (spans now : List (List ToldSecond)) → spans ≡ ended ++ span ∷ [] → now ≡ ended ++ longer ∷ [] →
      ((m : Minute) → Contains (decided_of rule span) m → Contains (decided_of rule longer) m) → GoOn spans now
  last-on ended span longer spans now was is goes earlier s later are = ⊎_elim
      (λ last. (
        longer,
        [],
        is ∙ ap (λ (es : List (List ToldSecond)). es ++ longer ∷ []) last.0,
        (λ m at. goes m (subst (λ (x : List ToldSecond). Contains (decided_of rule x) m) (sym last.1) at)),
      ))
      (λ inside. (
        s,
        inside.0 ++ longer ∷ [],
        is ∙ ap (λ (es : List (List ToldSecond)). es ++ longer ∷ []) inside.1 ∙ append_assoc earlier (s ∷ inside.0) (longer ∷ []),
        (λ m at. at),
      ))
      (snoc-parts ended span earlier s later (sym was ∙ are))

  -- the span that goes on, if there is one, has a second more
  pub second-more : (ended : List (List ToldSecond)) (span : List ToldSecond) (t : ToldSecond) (spans now : List (List ToldSecond)) → spans ≡ ended ++ as_spans span → now ≡ ended ++ (span ++ t ∷ []) ∷ [] →
      ((m : Minute) → Contains (decided_of rule span) m → Contains (decided_of rule (span ++ t ∷ [])) m) → GoOn spans now
  second-more ended [] t spans now was is goes = more-on spans now ((t ∷ []) ∷ []) (is ∙ ap (λ (es : List (List ToldSecond)). es ++ (t ∷ []) ∷ []) (sym (append-nil ended) ∙ sym was))
  second-more ended (x ∷ span) t spans now was is goes = last-on ended (x ∷ span) ((x ∷ span) ++ t ∷ []) spans now was is goes

  -- so does what was reckoned
  pub reckoned-on : (log later : RunLog) (known_ later_known : List Break) (spans now : List (List ToldSecond)) → ((u : ℕ) → tells_cut u known_ ≡ true → kept_after log u ≡ kept_after later u) →
      ((u : ℕ) → tells_cut u known_ ≡ true → tells_cut u later_known ≡ true) → GoOn spans now → (e : Reckoned) → IsReckoned rule log known_ spans e → IsReckoned rule later later_known now e
  reckoned-on log later known_ later_known spans now same goes on e r =
      let there = on r.earlier r.span r.later r.are in
      record {
        earlier = r.earlier;
        span = there.0;
        later = there.1;
        are = there.2;
        minute = r.minute;
        decided = there.3 r.minute r.decided;
        number = r.number;
        leg = r.leg;
        known = known-more rule known_ later_known r.earlier goes r.known;
        legs = r.legs;
        closed = legs-alike rule (closed_limit log) (closed_limit later) 0 r.earlier r.legs (known-closed rule known_ log later same r.earlier r.known) r.closed;
        sums = r.sums;
      }

  -- and a minute of the last span is
  pub reckoned-now : (first : ℕ) (log : RunLog) (known_ : List Break) (ended : List (List ToldSecond)) (span : List ToldSecond) (b : Book) (before : List ℕ) → AreClosedLegs rule first log known_ ended span b before → (now : List (List ToldSecond)) → now ≡ ended ++ span ∷ [] →
      (d : Minute) → Contains (decided_of rule span) d → IsReckoned rule log known_ now (record { minute = d.minute; before = before; leg = d.travelled })
  reckoned-now first log known_ ended span b before c now is d at = record {
    earlier = ended;
    span = span;
    later = [];
    are = is;
    minute = d;
    decided = at;
    number = refl;
    leg = refl;
    known = c.known;
    legs = c.legs;
    closed = c.closed;
    sums = c.sums;
  }
