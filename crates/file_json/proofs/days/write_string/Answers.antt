use Rattle.std.proofs.Common.{◌≡◌, ◌∙◌, ◌++◌, ℕ, List, length, subst}
use Rattle.std.specs.Prelude.{OnOk}
use Rattle.json.specs.Json.{array}
use Rattle.json.specs.Tree.{json_tokens}
use Rattle.file_json.specs.Days.{circle_from, days_shown, far_between, newest_items}
use Rattle.file_json.proofs.days.write_string.Goals as goal

pub returns : goal.returns
returns c =
    let circle : c.as_slice.result.now ≡ circle_from c.args.pointers.oldest c.args.string.now = c.as_slice.ensures.value ∙ c.in_ok-circle.ensures in
    subst (λ (l : List ℕ). OnOk c.write_newest.result (c.write_newest.new.writer ≡ c.args.writer.now ++ json_tokens (array (newest_items c.args.last (days_shown (length c.args.string.now) (far_between c.args.pointers.oldest c.args.pointers.newest (length c.args.string.now)) l))))) circle
    (subst (λ (n : ℕ). OnOk c.write_newest.result (c.write_newest.new.writer ≡ c.args.writer.now ++ json_tokens (array (newest_items c.args.last (days_shown (length c.args.string.now) n c.as_slice.result.now))))) c.far_between-far.ensures c.write_newest.ensures)
