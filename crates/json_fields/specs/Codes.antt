-- What codes of one byte stand for, as the data types of Annex IB, Appendix 1, name them; nothing where they name none.
use Rattle.std.specs.Prelude.{ℕ, ◌==◌, nat_le, if◌then◌else◌, List, [], codes}
use Rattle.json_fields.specs.declared.codes.Coding.{Coding}
use Rattle.json_fields.specs.declared.codes.Coding.TheVariants as coding

-- EventFaultType
abbrev pub event_fault : ℕ → List ℕ
event_fault code =
    if code == 0 then codes "noFurtherDetails" else (if code == 1 then codes "insertionOfANonValidCard" else (
    if code == 2 then codes "cardConflict" else (if code == 3 then codes "timeOverlap" else (
    if code == 4 then codes "drivingWithoutAnAppropriateCard"
    else (if code == 5 then codes "cardInsertionWhileDriving" else (
    if code == 6 then codes "lastCardSessionNotCorrectlyClosed" else (if code == 7 then codes "overSpeeding" else (
    if code == 8 then codes "powerSupplyInterruption" else (if code == 9 then codes "motionDataError" else (
    if code == 0x10 then codes "noFurtherDetails"
    else (if code == 0x11 then codes "motionSensorAuthenticationFailure" else (
    if code == 0x12 then codes "tachographCardAuthenticationFailure"
    else (if code == 0x13 then codes "unauthorisedChangeOfMotionSensor" else (
    if code == 0x14 then codes "cardDataInputIntegrityError"
    else (if code == 0x15 then codes "storedUserDataIntegrityError" else (
    if code == 0x16 then codes "internalDataTransferError"
    else (if code == 0x17 then codes "unauthorisedCaseOpening" else (
    if code == 0x18 then codes "hardwareSabotage" else (if code == 0x20 then codes "noFurtherDetails" else (
    if code == 0x21 then codes "authenticationFailure"
    else (if code == 0x22 then codes "storedDataIntegrityError" else (
    if code == 0x23 then codes "internalDataTransferError"
    else (if code == 0x24 then codes "unauthorisedCaseOpening" else (
    if code == 0x25 then codes "hardwareSabotage" else (if code == 0x30 then codes "noFurtherDetails" else (
    if code == 0x31 then codes "vuInternalFault" else (if code == 0x32 then codes "printerFault" else (
    if code == 0x33 then codes "displayFault" else (if code == 0x34 then codes "downloadingFault" else (
    if code == 0x35 then codes "sensorFault"
    else (if code == 0x40 then codes "noFurtherDetails" else ([]))))))))))))))))))))))))))))))))

-- EventFaultRecordPurpose
abbrev pub record_purpose : ℕ → List ℕ
record_purpose code =
    if code == 0 then codes "oneOfThe10MostRecent" else (if code == 1 then codes "longestOfOneOfTheLast10Days" else (
    if code == 2 then codes "oneOfThe5LongestOverTheLast365Days"
    else (if code == 3 then codes "lastOfOneOfTheLast10Days" else (
    if code == 4 then codes "mostSeriousOfOneOfTheLast10Days"
    else (if code == 5 then codes "oneOfThe5MostSeriousOverTheLast365Days" else (
    if code == 6 then codes "firstAfterTheLastCalibration"
    else (if code == 7 then codes "activeOrOnGoing" else ([]))))))))

-- CalibrationPurpose
abbrev pub calibration : ℕ → List ℕ
calibration code =
    if code == 0 then codes "reserved"
    else (if code == 1 then codes "activation" else (if code == 2 then codes "firstInstallation" else (
    if code == 3 then codes "installation" else (if code == 4 then codes "periodicInspection" else ([])))))

-- CardSlotNumber
abbrev pub slot : ℕ → List ℕ
slot code =
    if code == 0 then codes "driverSlot" else (if code == 1 then codes "coDriverSlot" else ([]))

-- ManualInputFlag
abbrev pub manual_input : ℕ → List ℕ
manual_input code =
    if code == 0 then codes "noEntry" else (if code == 1 then codes "manualEntries" else ([]))

-- EntryTypeDailyWorkPeriod
abbrev pub daily_work_period : ℕ → List ℕ
daily_work_period code =
    if code == 0 then codes "begin"
    else (if code == 1 then codes "end" else (if code == 2 then codes "beginManuallyEntered" else (
    if code == 3 then codes "endManuallyEntered" else (if code == 4 then codes "beginAssumedByVu" else (
    if code == 5 then codes "endAssumedByVu" else ([]))))))

-- SpecificConditionType
abbrev pub specific_condition : ℕ → List ℕ
specific_condition code =
    if code == 1 then codes "outOfScopeBegin"
    else (if code == 2 then codes "outOfScopeEnd" else (if code == 3 then codes "ferryTrainCrossing" else ([])))

-- EquipmentType
abbrev pub equipment : ℕ → List ℕ
equipment code =
    if code == 0 then codes "reserved"
    else (if code == 1 then codes "driverCard" else (if code == 2 then codes "workshopCard" else (
    if code == 3 then codes "controlCard"
    else (if code == 4 then codes "companyCard" else (if code == 5 then codes "manufacturingCard" else (
    if code == 6 then codes "vehicleUnit" else (if code == 7 then codes "motionSensor" else ([]))))))))

-- NationNumeric, by its letters of NationAlpha; 0 has none
abbrev pub nation : ℕ → List ℕ
nation code =
    if code == 0 then codes "noInformationAvailable" else (if code == 1 then codes "A" else (
    if code == 2 then codes "AL" else (if code == 3 then codes "AND" else (if code == 4 then codes "ARM" else (
    if code == 5 then codes "AZ" else (if code == 6 then codes "B"
    else (if code == 7 then codes "BG" else (if code == 8 then codes "BIH" else (
    if code == 9 then codes "BY" else (if code == 0xa then codes "CH"
    else (if code == 0xb then codes "CY" else (if code == 0xc then codes "CZ" else (
    if code == 0xd then codes "D" else (if code == 0xe then codes "DK" else (if code == 0xf then codes "E" else (
    if code == 0x10 then codes "EST" else (if code == 0x11 then codes "F" else (if code == 0x12 then codes "FIN" else (
    if code == 0x13 then codes "FL" else (if code == 0x14 then codes "FR" else (if code == 0x15 then codes "UK" else (
    if code == 0x16 then codes "GE" else (if code == 0x17 then codes "GR" else (if code == 0x18 then codes "H" else (
    if code == 0x19 then codes "HR" else (if code == 0x1a then codes "I" else (if code == 0x1b then codes "IRL" else (
    if code == 0x1c then codes "IS" else (if code == 0x1d then codes "KZ" else (if code == 0x1e then codes "L" else (
    if code == 0x1f then codes "LT" else (if code == 0x20 then codes "LV" else (if code == 0x21 then codes "M" else (
    if code == 0x22 then codes "MC" else (if code == 0x23 then codes "MD" else (if code == 0x24 then codes "MK" else (
    if code == 0x25 then codes "N" else (if code == 0x26 then codes "NL" else (if code == 0x27 then codes "P" else (
    if code == 0x28 then codes "PL" else (if code == 0x29 then codes "RO" else (if code == 0x2a then codes "RSM" else (
    if code == 0x2b then codes "RUS" else (if code == 0x2c then codes "S" else (if code == 0x2d then codes "SK" else (
    if code == 0x2e then codes "SLO" else (if code == 0x2f then codes "TM" else (if code == 0x30 then codes "TR" else (
    if code == 0x31 then codes "UA" else (if code == 0x32 then codes "V" else (if code == 0x33 then codes "YU" else (
    if code == 0xfd then codes "EC"
    else (if code == 0xfe then codes "EUR"
    else (if code == 0xff then codes "WLD" else ([])))))))))))))))))))))))))))))))))))))))))))))))))))))))

-- an event, a fault or a purpose from 80 (hexadecimal) on is the manufacturer's
abbrev pub of_manufacturer : (ℕ → List ℕ) → ℕ → List ℕ
of_manufacturer told code = if nat_le 0x80 code then codes "manufacturerSpecific" else told code

-- WHAT A CODE STANDS FOR
abbrev pub meaning : Coding → ℕ → List ℕ
meaning coding.EventFault code = of_manufacturer event_fault code
meaning coding.RecordPurpose code = of_manufacturer record_purpose code
meaning coding.Calibration code = calibration code
meaning coding.Slot code = slot code
meaning coding.ManualInput code = manual_input code
meaning coding.DailyWorkPeriod code = daily_work_period code
meaning coding.SpecificCondition code = specific_condition code
meaning coding.Equipment code = equipment code
meaning coding.Nation code = nation code
