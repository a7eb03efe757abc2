use Rattle.std.proofs.Common.{rules, length, ◌≡◌, ◌∙◌, sym, ap, List, ℕ, get_or, take, drop, arith}
use Rattle.std.proofs.lemmas.List.{take_all}
use Rattle.byteorder.specs.Endian.{big_number}
use Rattle.tacho_types.specs.Numbers.{time_of}
use Rattle.card_files.specs.Events.{event_of}
use Rattle.card_files.proofs.Parts.{same_event, registration_is}
use Rattle.card_files.proofs.card_event.read_event.Goals as goal

pub returns-clause-value : goal.returns-clause-value
unfolding event_of
returns-clause-value c =
    let one : get_or (take 1 c.args.b.now) 0 0 ≡ big_number 1 (take 1 c.args.b.now) = omega arith in
    let after_kind = c.split_at.ensures.back in
    let after_begin = c.split_at-2.ensures.back ∙ ap (drop 4) after_kind in
    let last_len : length c.split_at-3.result.1.now ≡ 15 = search rules in
    let last = sym (take_all 15 c.split_at-3.result.1.now (omega arith)) ∙ ap (take 15) (c.split_at-3.ensures.back ∙ ap (drop 4) after_begin) in
    same_event _ _ _ _ _ _ _ _
    (ap (λ (x : List ℕ). get_or x 0 0) c.split_at.ensures.front ∙ one)
    (c.read_time.ensures.value ∙ ap time_of (c.split_at-2.ensures.front ∙ ap (take 4) after_kind))
    (c.read_time-2.ensures.value ∙ ap time_of (c.split_at-3.ensures.front ∙ ap (take 4) after_begin))
    (registration_is c.read_registration.result _ (c.read_registration.ensures ∙ last))
