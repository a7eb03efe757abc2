-- What is carried of a string where its days and its end mark stay, and where it is broken off.
use Rattle.std.proofs.Common.{◌≡◌, ℕ, ◌≤◌, false, List, sym, ◌∙◌, subst}
use Rattle.card_by_hand.specs.activity_codec.declared.entries.Entry.{Entry}
use Rattle.tach_media.specs.card_layout.declared.files.Application.{Application}
use Rattle.tach_media.specs.card_layout.Application.{IsApplication}
use Rattle.card_by_hand.specs.card_model.Days.{Day}
use Rattle.card_by_hand.specs.card_retention.Expected.{Counted}
use Rattle.card_by_hand.specs.card_retention.Shown.{Bound, AllUpTo, Lives, is_open}
use Rattle.card_by_hand.proofs.card_retention.Listing.{Lists}
use Rattle.card_by_hand.proofs.card_retention.ListTrims.{entries_trimmed, lists_trimmed}
use Rattle.card_by_hand.proofs.card_retention.Stops.{stop_none}
use Rattle.card_by_hand.specs.card_image.Fields.{card_days, end_mark}
use Rattle.card_by_hand.specs.card_session.Overwriting.{IsSilentBehind}
use Rattle.card_string.specs.Carried.{StringFollowsEntries, Broke}

module _ (app : Application) (slack : Bound) (covered from : ℕ) (c : Counted) (all : List Entry) where
  -- the days and the end mark stay
  pub goes_moved : (y z : List ℕ) → card_days app z ≡ card_days app y → end_mark app z ≡ end_mark app y → StringFollowsEntries app slack covered from c all y → StringFollowsEntries app slack covered from c all z
  goes_moved y z days mark g = record {
    lives = subst (λ (ds : List Day). Lives app.activity slack covered from (end_mark app z) c ds) (sym days) (subst (λ (n : ℕ). Lives app.activity slack covered from n c (card_days app y)) (sym mark) g.lives);
    until = subst (λ (n : ℕ). AllUpTo n all) (sym mark) g.until;
    lists = subst (λ (ds : List Day). Lists (end_mark app z) all ds) (sym days) (subst (λ (n : ℕ). Lists n all (card_days app y)) (sym mark) g.lists);
    silent = subst (λ (ds : List Day). is_open (end_mark app z) ds ≡ false → IsSilentBehind (end_mark app z) ds) (sym days)
        (subst (λ (n : ℕ). is_open n (card_days app y) ≡ false → IsSilentBehind n (card_days app y)) (sym mark) g.silent);
  }

  -- where it is broken off
  pub goes_broke : IsApplication app → 16 ≤ slack.bytes → (to : ℕ) (y : List ℕ) → from ≤ to → StringFollowsEntries app slack covered from c all y → Broke app slack covered to c all y
  goes_broke sound least to y later g = record {
    rests = stop_none app.activity slack covered from (end_mark app y) c (card_days app y) g.lives to later sound.string_least least;
    until = g.until;
    lists = sym (entries_trimmed (end_mark app y) 0 (card_days app y) g.lives.rests.ordered) ∙ lists_trimmed (end_mark app y) all (card_days app y) g.lives.rests.ordered g.until g.lists;
  }
