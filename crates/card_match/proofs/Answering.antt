-- An answer of other names for the same lists.
use Rattle.std.proofs.Common.{◌≡◌, List, subst}
use Rattle.activity_codec.specs.declared.entries.Entry.{Entry}
use Rattle.unit_model.specs.Days.{UnitMinute}
use Rattle.card_match.specs.Matching.{Against}
use Rattle.card_match.specs.declared.cases.Use.{Use}

pub same_answer : {T : Type 0} (Answer : Against → List Entry → T → Type 0) (us vs : List Use) (ms ns : List UnitMinute) (es fs : List Entry) (told : T) → us ≡ vs → ms ≡ ns → es ≡ fs
    → Answer (record { uses = us; minutes = ms }) es told → Answer (record { uses = vs; minutes = ns }) fs told
same_answer Answer us vs ms ns es fs told uses minutes entries is =
    let by : List Use → List UnitMinute → Against = λ u n. record { uses = u; minutes = n } in
    subst (λ (x : List Entry). Answer (by vs ns) x told) entries (subst (λ (x : List UnitMinute). Answer (by vs x) es told) minutes (subst (λ (x : List Use). Answer (by x ms) es told) uses is))
