-- "What is refused": the numbers of its causes, and what an answer says in them.
use Rattle.std.specs.Prelude.{ℕ, Result, Ok, Err}
use Rattle.definitions.specs.Text.{good, bad}
use Rattle.definitions.specs.Text as Text
use Rattle.text.specs.declared.refusal.Refusal.{Refusal}
use Rattle.text.specs.declared.refusal.Refusal.TheVariants.{TooLong, BadLine, OutOfRange, TooFewProcessors, OwnDelay, RepeatedEdge, Circle, NoRoom, OtherJob, TaskOutOfTurn, ProcessorsDescend, WrongTick, WrongMakespan, StopsDescend, EdgesDescend}

-- The number of each cause; 12 names a task besides, and is the checker's.
abbrev pub number_of : Refusal → ℕ
number_of TooLong = 1
number_of BadLine = 2
number_of OutOfRange = 3
number_of TooFewProcessors = 4
number_of OwnDelay = 5
number_of RepeatedEdge = 6
number_of Circle = 7
number_of NoRoom = 8
number_of OtherJob = 9
number_of TaskOutOfTurn = 10
number_of ProcessorsDescend = 11
number_of WrongTick = 13
number_of WrongMakespan = 14
number_of StopsDescend = 15
number_of EdgesDescend = 16

-- Document 01's result for each case of an answer: what it holds, or the number of the refusal.
abbrev pub result_of : {A : Type 0} → Result A Refusal → Text.Result A
result_of (Ok a) = good a
result_of (Err e) = bad (number_of e)
