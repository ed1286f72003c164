-- What a command comes to, it comes to with its calls written out; and what is counted but for the calls is then all that is counted.
-- Written out, no call is left, and the command differs in wrapping alone. Rests on Wrapping, WrittenOut and Coming.
use Rattle.laws.specs.Procedures.{written, all_written}
use Rattle.wrapping.specs.Coming.{Use, whole, sequel, branches, further, Task, halts, enters}

-- What it comes to.

abbrev pub written_use : Use → Use
written_use whole = whole
written_use (sequel cs) = sequel (all_written cs)
written_use (branches keep a b) = branches keep (written a) (written b)
written_use further = further

abbrev pub written_task : Task → Task
written_task (halts e g) = halts e g
written_task (enters c g u) = enters (written c) g (written_use u)
