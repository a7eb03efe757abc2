use Rattle.std.proofs.Common.{◌≡◌, ◌∙◌, ◌/◌, ℕ, Some, None, sym, ap, subst}
use Rattle.card_files.specs.declared.current_use.CurrentUse.{CurrentUse}
use Rattle.card_image.specs.card_model.Image.{StringShape, oldest_pointer}
use Rattle.card_image.specs.Fields.{last_use_of, end_mark, session_time, card_days}
use Rattle.card_validity.specs.Walks.{IsInMemory}
use Rattle.card_validity.proofs.Verdicts.{in_memory, words_told, words_decide}
use Rattle.card_validity.proofs.files.judge_words.Goals as goal

pub first_bad_word-requires-clause-known : goal.first_bad_word-requires-clause-known
first_bad_word-requires-clause-known c =
    subst (λ (r : StringShape). IsInMemory r c.args.image.now) (sym c.requires.shape)
    (in_memory c.args.app.now c.requires.sizes c.args.image.now c.requires.inside c.args.days c.requires.shape c.requires.days c.requires.short)

pub first_bad_word-requires-clause-size : goal.first_bad_word-requires-clause-size
first_bad_word-requires-clause-size c = c.round_of-round.ensures.size ∙ sym (ap (λ (r : StringShape). r.size) c.requires.shape)

pub first_bad_word-requires-clause-oldest : goal.first_bad_word-requires-clause-oldest
first_bad_word-requires-clause-oldest c = c.round_of-round.ensures.oldest ∙ sym (ap (λ (r : StringShape). oldest_pointer r c.args.image.now) c.requires.shape)

pub returns-in-Some-clause-bad : goal.returns-in-Some-clause-bad
returns-in-Some-clause-bad c =
    let app = c.args.app.now in
    let x = c.args.image.now in
    let mark : c.last_use-mark.result.0 / 60 ≡ end_mark app x = ap (λ (n : ℕ). n / 60) (c.last_use-mark.ensures ∙ ap last_use_of c.newest_vehicle-vehicle.ensures) in
    let session : c.current_use-current.result.session.0 ≡ session_time app x = ap (λ (u : CurrentUse). u.session.0) c.current_use-current.ensures in
    let told = words_told app c.requires.sizes x c.requires.inside c.args.days c.requires.shape c.requires.days _ _ (Some c.in-Some.place) mark session c.in-Some.ensures in
    words_decide app c.requires.sizes x c.requires.inside c.args.days c.requires.shape c.requires.days c.requires.points c.requires.places (Some c.in-Some.place) told

pub returns-in-None-clause-known : goal.returns-in-None-clause-known
unfolding card_days
returns-in-None-clause-known c =
    let app = c.args.app.now in
    let x = c.args.image.now in
    let mark : c.last_use-mark.result.0 / 60 ≡ end_mark app x = ap (λ (n : ℕ). n / 60) (c.last_use-mark.ensures ∙ ap last_use_of c.newest_vehicle-vehicle.ensures) in
    let session : c.current_use-current.result.session.0 ≡ session_time app x = ap (λ (u : CurrentUse). u.session.0) c.current_use-current.ensures in
    let told = words_told app c.requires.sizes x c.requires.inside c.args.days c.requires.shape c.requires.days _ _ None mark session c.in-None.ensures in
    record {
      passes = words_decide app c.requires.sizes x c.requires.inside c.args.days c.requires.shape c.requires.days c.requires.points c.requires.places None told;
      shape = c.requires.shape;
      days = c.requires.days;
      ring = c.requires.ring;
      points = c.requires.points;
      newest = c.newest_of-newest.ensures.newest;
      vehicle = c.newest_vehicle-vehicle.ensures;
      current = c.current_use-current.ensures;
    }

pub returns-in-None-clause-sized : goal.returns-in-None-clause-sized
returns-in-None-clause-sized c = record { days = c.requires.shape; vehicles = c.requires.ring; newest = c.newest_of-newest.ensures.below }
