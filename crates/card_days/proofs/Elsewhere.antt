-- A write outside the file of days changes nothing of what is known of it.
use Rattle.std.proofs.Common.{◌≡◌, ◌+◌, ℕ, List, sym, ◌∙◌}
use Rattle.tach_media.specs.Medium.{bytes_at}
use Rattle.card_model.specs.Days.{Day}
use Rattle.card_model.proofs.Elsewhere.{holds_elsewhere, newest_elsewhere}
use Rattle.card_days.specs.Held.{Held, Knows}

pub knows_elsewhere : (v : Held) (x c : List ℕ) → bytes_at c v.shape.base (4 + v.shape.size) ≡ bytes_at x v.shape.base (4 + v.shape.size) → (days : List Day) → Knows v x days → Knows v c days
knows_elsewhere v x c same days k = record { holds = holds_elsewhere v.shape x c same days k.holds; place = k.place ∙ sym (newest_elsewhere v.shape x c same); used = k.used; newest = k.newest }
