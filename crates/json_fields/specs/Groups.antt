-- The table of each record that is a field of others.
use Rattle.std.specs.Prelude.{List}
use Rattle.json_fields.specs.declared.fields.Field.{Field}
use Rattle.json_fields.specs.declared.fields.Group.{Group}
use Rattle.json_fields.specs.declared.fields.Group.TheVariants as group
use Rattle.json_fields.specs.declared.tables.TheConstants.{DOWNLOADABLE_PERIOD, DOWNLOAD_ACTIVITY, PREVIOUS_VEHICLE}
use Rattle.json_fields.specs.declared.tables.TheConstants.{PLACE, SOFTWARE, CARD_IDENTIFICATION, HOLDER_IDENTIFICATION}

-- the fields of such a record
abbrev pub group_fields : Group → List Field
group_fields group.DownloadablePeriod = DOWNLOADABLE_PERIOD
group_fields group.DownloadActivity = DOWNLOAD_ACTIVITY
group_fields group.PreviousVehicle = PREVIOUS_VEHICLE
group_fields group.Place = PLACE
group_fields group.Software = SOFTWARE
group_fields group.CardIdentification = CARD_IDENTIFICATION
group_fields group.HolderIdentification = HOLDER_IDENTIFICATION
