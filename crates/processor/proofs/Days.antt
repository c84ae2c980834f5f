-- A day's own invariant, as what holds of the day that it is.
use Rattle.processor.specs.Held.{day_of}
use Rattle.processor.specs.Lawful.{Lawful}
use Rattle.processor.specs.declared.practice_day.Day.{Day}

pub of_day : (day : Day) → Lawful (day_of day.floor)
of_day day = record {
  filled = (day.floor.each_line, day.floor.each_security, day.floor.each_sheet, day.floor.each_record);
  frames = day.frames;
  ids = day.ids;
  centers = day.centers;
  sound_centers = day.sound_centers;
  posted = day.posted;
  serial = day.serial;
  sheets = day.sheets;
  sound_sheets = day.sound_sheets;
}
