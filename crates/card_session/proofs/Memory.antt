-- A card in memory, which may be written everywhere.
use Rattle.std.proofs.Common.{inl, ◌+◌, ◌≤◌, arith}
use Rattle.card_layout.specs.declared.files.Application.{Application}
use Rattle.card_layout.specs.Files.{files_of, image_size_of, place_of, size_of}
use Rattle.tach_media.specs.Log.{History}
use Rattle.tach_media.specs.declared.counts.Counts.{Counts}
use Rattle.tach_media.specs.MemMedium.{memory_state}
use Rattle.card_validity.specs.card_image.Fields.{file}
use Rattle.card_session.specs.Sessions.{MayKeep, MayClose}
use Rattle.card_session.specs.Inserting.{MayInsert}
use Rattle.card_session.proofs.OnCard.{ring_behind, ring_inside}
use Rattle.card_session.proofs.InsertingUse.{use_inside}

events_inside : (app : Application) → place_of app (file 0x0502) + size_of app (file 0x0502) ≤ image_size_of app
unfolding files_of
events_inside app = omega arith

module _ (app : Application) (h : History) (k : Counts) (fits : image_size_of app ≤ (memory_state h k).size) where
  pub may_keep : MayKeep app (memory_state h k)
  may_keep = record {
    fits = fits;
    days = inl (omega arith, omega (arith, fits, ring_behind app, ring_inside app));
    vehicles = inl (omega arith, omega (arith, fits, ring_inside app));
  }

  pub may_close : MayClose app (memory_state h k)
  may_close = record { keep = may_keep; session = inl (omega arith, omega (arith, fits, use_inside app)) }

  pub may_insert : MayInsert app (memory_state h k)
  may_insert = record {
    keep = may_keep;
    events = inl (omega arith, omega (arith, fits, events_inside app));
    current = inl (omega arith, omega (arith, fits, use_inside app));
  }
