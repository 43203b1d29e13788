-- The numbers of refusals, which stand in the paper, "Refused because of the input" and "Refused because of the state", and in the requests: 12 in request
-- 5, 15 in request 3, 31 to 33 in request 1, 41 to 43 in request 8.
-- Assumes nothing.
use Rattle.std.specs.Prelude.{ℕ, Ok, Err, Result}
use Rattle.refusals.specs.declared.Refusal.{Refusal}
use Rattle.refusals.specs.declared.Refusal.TheVariants.{NoHeader, BadField, BadParties, BadLength, NotBelowP, NoSharing, BadMask, BadTriple, BadCommand, BadEnd, OutOfRange, BadPresent, OutputShort, Unset, NoInput, NoMask, TooFewTriples, RecordFull, RevealedFull, BadLine, BadTime, SecondsFull, OwnShareDiffers, BadOpening, RecordShort}

abbrev pub number_of : Refusal → ℕ
number_of NoHeader = 1
number_of BadField = 2
number_of BadParties = 3
number_of BadLength = 4
number_of NotBelowP = 5
number_of NoSharing = 6
number_of BadMask = 7
number_of BadTriple = 8
number_of BadCommand = 9
number_of BadEnd = 10
number_of OutOfRange = 11
number_of BadPresent = 12
number_of OutputShort = 15
number_of Unset = 21
number_of NoInput = 22
number_of NoMask = 23
number_of TooFewTriples = 24
number_of RecordFull = 25
number_of RevealedFull = 26
number_of BadLine = 31
number_of BadTime = 32
number_of SecondsFull = 33
number_of OwnShareDiffers = 41
number_of BadOpening = 42
number_of RecordShort = 43

-- the number of an answer: 0, or that of the refusal
abbrev pub told : {A : Type 0} → Result A Refusal → ℕ
told (Ok _) = 0
told (Err refusal) = number_of refusal

-- what is answered, and what stands for it in a refusal
abbrev pub given_or : {A : Type 0} → A → Result A Refusal → A
given_or refused (Ok value) = value
given_or refused (Err _) = refused
