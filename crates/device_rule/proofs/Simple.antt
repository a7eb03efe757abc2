-- The laws asked of days and of entries can be met: by the days of a unit, and by entries of which none is lost.
use Rattle.std.proofs.Common.{◌≡◌, inl, inr, ℕ, ◌-◌, ◌≤◌, Option, Some, None, List, [], ◌∷◌, ◌++◌, length, map, ap, subst, sym, ◌∙◌, arith, length-drop}
use Rattle.std.specs.Prelude.{option_to_list}
use Rattle.std.proofs.lemmas.List.{map-append}
use Rattle.std.proofs.lemmas.List.Sums.{fold-append}
use Rattle.activity_codec.specs.declared.entries.Entry.{Entry}
use Rattle.unit_model.specs.Days.{ShownDay, filled, filled_all, newest_days, Each}
use Rattle.unit_model.specs.Retention.{UnitRetains}
use Rattle.unit_model.proofs.Retention.{kept_retains, given_retains}
use Rattle.history_model.specs.Minutes.{HistoryMinute}
use Rattle.device_rule.specs.Filling.{seen_by_unit, filled_with, FillsDays, KeepsMinute, GivesUpDay}
use Rattle.device_rule.specs.Rules.{IsBefore, DaysGoOn, EntriesGoOn}

filled-more : (start : List ShownDay) (past : List HistoryMinute) (i : HistoryMinute) → filled_with start (past ++ i ∷ []) ≡ filled (filled_with start past) (seen_by_unit i)
filled-more start past i = ap (filled_all start) (map-append seen_by_unit past (i ∷ [])) ∙ fold-append filled start (map seen_by_unit past) (seen_by_unit i ∷ [])

earlier : (next : Option HistoryMinute) (i : HistoryMinute) → IsBefore next i → Each (λ m. m ≤ i.minute) (map (λ (i : HistoryMinute). i.minute) (option_to_list next))
earlier None i before = tt
earlier (Some n) i before = (before, tt)

-- where 366 days are shown, none was given up
none-given : (m : ℕ) (all : List ShownDay) (next : List ℕ) (shown : List ShownDay) → UnitRetains all next shown → length shown ≡ 366 → UnitRetains all [] shown
none-given m all next shown (inl whole) full = inl whole
none-given m all next shown (inr (begun, less)) full = absurd (let few : length all - (length all - 365) ≡ 366 = sym (length-drop (length all - 365) all) ∙ sym (ap length less) ∙ full in omega (arith, few))

pub days-go-on : (start : List ShownDay) → DaysGoOn (FillsDays start) KeepsMinute GivesUpDay
days-go-on start = record {
  added = λ next past i x y shown before adds.
      inl (adds ∙ kept_retains (filled_with start past) (map (λ (i : HistoryMinute). i.minute) (option_to_list next)) x (seen_by_unit i) shown (earlier next i before) ∙ ap (newest_days 366) (sym (filled-more start past i)));
  given = λ next past i x y shown before gives.
      subst (UnitRetains (filled_with start past) (i.minute ∷ [])) (sym gives.given)
      (given_retains i.minute (filled_with start past) [] x (none-given i.minute (filled_with start past) (map (λ (i : HistoryMinute). i.minute) (option_to_list next)) x shown gives.full) gives.full gives.further);
}

pub entries-go-on : EntriesGoOn (λ next full x. x.entries ≡ full) (λ next x taken y. y.entries ≡ x.entries ++ taken)
entries-go-on = record {
  later = λ next n full x le is. is;
  added = λ next full taken x y is adds. adds ∙ ap (λ (zs : List Entry). zs ++ taken) is;
}
