-- What a unit was issued with tells by which rule of minutes a run goes.
use Rattle.std.proofs.Common.{◌≡◌, ⊎_elim, ℕ, ◌≤◌, ◌<◌, List, [], ◌++◌, length, take, drop, sym, ◌∙◌, ap, arith}
use Rattle.std.proofs.lemmas.Bool.{cases_lt}
use Rattle.std.proofs.lemmas.List.{take_at, take_all, drop_all, length-take, append-nil}
use Rattle.tach_media.specs.Medium.{bytes_at}
use Rattle.device_rule.specs.unit_model.declared.layout.TheConstants.{LAST_KEPT, SPARE_COUNTS, SPARE_ROWS, SPARE_FAULTS}
use Rattle.device_rule.specs.unit_model.Versions.{rule_of}
use Rattle.device_rule.proofs.unit_model.Versions.{front_rule}
use Rattle.safety_model.specs.Unit.{issued_bytes}

-- the bytes in front of the last-kept minute, in what a unit was issued with
module _ (x : List ℕ) where
  abbrev rest : List ℕ
  rest = bytes_at x SPARE_COUNTS.place SPARE_COUNTS.size ++ (bytes_at x SPARE_ROWS.place SPARE_ROWS.size ++ bytes_at x SPARE_FAULTS.place SPARE_FAULTS.size)

  long : LAST_KEPT.place ≤ length x → take LAST_KEPT.place (issued_bytes x) ≡ take LAST_KEPT.place x
  long le = take_at (take LAST_KEPT.place x) rest LAST_KEPT.place (let e = length-take LAST_KEPT.place x in omega (arith, e, le))

  short : length x < LAST_KEPT.place → take LAST_KEPT.place (issued_bytes x) ≡ take LAST_KEPT.place x
  short less =
      let none : (p : ℕ) → LAST_KEPT.place ≤ p → drop p x ≡ [] = λ p low. drop_all p x (omega (arith, low, less)) in
      let all : take LAST_KEPT.place x ≡ x = take_all LAST_KEPT.place x (omega (arith, less)) in
      (λ t. take LAST_KEPT.place (all t ++ (take SPARE_COUNTS.size (none SPARE_COUNTS.place (omega arith) t) ++ (take SPARE_ROWS.size (none SPARE_ROWS.place (omega arith) t) ++ take SPARE_FAULTS.size (none SPARE_FAULTS.place (omega arith) t)))))
      ∙ ap (take LAST_KEPT.place) (append-nil x)

  front-issued : take LAST_KEPT.place (issued_bytes x) ≡ take LAST_KEPT.place x
  front-issued = ⊎_elim short long (cases_lt (length x) LAST_KEPT.place)

pub issued-rule : (x u : List ℕ) → issued_bytes x ≡ issued_bytes u → rule_of x ≡ rule_of u
issued-rule x u same = front_rule u x (sym (front-issued x) ∙ ap (take LAST_KEPT.place) same ∙ front-issued u)
