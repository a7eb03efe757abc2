-- The table of each kind of record.
use Rattle.std.specs.Prelude.{List}
use Rattle.json_fields.specs.declared.fields.Field.{Field}
use Rattle.json_fields.specs.declared.kinds.Kind.{Kind}
use Rattle.json_fields.specs.declared.kinds.Kind.TheVariants as kind
use Rattle.json_fields.specs.declared.tables.TheConstants.{CERTIFICATES, VEHICLE_OF_UNIT, LOCK, CONTROL, SIGNATURE, DAY}
use Rattle.json_fields.specs.declared.tables.TheConstants.{INSERTION, UNIT_PLACE, CONDITION, UNIT_FAULT, UNIT_EVENT}
use Rattle.json_fields.specs.declared.tables.TheConstants.{OVERSPEED_CONTROL, OVERSPEED, ADJUSTMENT, SPEED_BLOCK}
use Rattle.json_fields.specs.declared.tables.TheConstants.{UNIT_IDENTIFICATION, SENSOR, CALIBRATION, ICC, IC}
use Rattle.json_fields.specs.declared.tables.TheConstants.{APPLICATION, CARD_CERTIFICATE, IDENTIFICATION, DOWNLOAD}
use Rattle.json_fields.specs.declared.tables.TheConstants.{LICENCE, CARD_EVENT, CARD_FAULT, VEHICLE, CARD_PLACE}
use Rattle.json_fields.specs.declared.tables.TheConstants.{CURRENT_USE, DAILY_RECORD, CARD_CONTROL}

-- the fields of a kind of record
abbrev pub fields_of : Kind → List Field
fields_of kind.Certificates = CERTIFICATES
fields_of kind.VehicleOfUnit = VEHICLE_OF_UNIT
fields_of kind.Lock = LOCK
fields_of kind.Control = CONTROL
fields_of kind.Signature = SIGNATURE
fields_of kind.Day = DAY
fields_of kind.Insertion = INSERTION
fields_of kind.UnitPlace = UNIT_PLACE
fields_of kind.Condition = CONDITION
fields_of kind.UnitFault = UNIT_FAULT
fields_of kind.UnitEvent = UNIT_EVENT
fields_of kind.OverspeedControl = OVERSPEED_CONTROL
fields_of kind.Overspeed = OVERSPEED
fields_of kind.Adjustment = ADJUSTMENT
fields_of kind.SpeedBlock = SPEED_BLOCK
fields_of kind.UnitIdentification = UNIT_IDENTIFICATION
fields_of kind.Sensor = SENSOR
fields_of kind.Calibration = CALIBRATION
fields_of kind.Icc = ICC
fields_of kind.Ic = IC
fields_of kind.ApplicationIdentification = APPLICATION
fields_of kind.CardCertificate = CARD_CERTIFICATE
fields_of kind.Identification = IDENTIFICATION
fields_of kind.CardDownload = DOWNLOAD
fields_of kind.Licence = LICENCE
fields_of kind.CardEvent = CARD_EVENT
fields_of kind.CardFault = CARD_FAULT
fields_of kind.Vehicle = VEHICLE
fields_of kind.CardPlace = CARD_PLACE
fields_of kind.CurrentUse = CURRENT_USE
fields_of kind.DailyRecord = DAILY_RECORD
fields_of kind.CardControl = CARD_CONTROL
