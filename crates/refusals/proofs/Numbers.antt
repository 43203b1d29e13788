-- Laws of the numbers of refusals.
-- Assumes nothing.
use Rattle.std.proofs.Common.{◌<◌, arith}
use Rattle.refusals.specs.declared.Refusal.{Refusal}
use Rattle.refusals.specs.declared.Refusal.TheVariants.{NoHeader, BadField, BadParties, BadLength, NotBelowP, NoSharing, BadMask, BadTriple, BadCommand, BadEnd, OutOfRange, BadPresent, OutputShort, Unset, NoInput, NoMask, TooFewTriples, RecordFull, RevealedFull, BadLine, BadTime, SecondsFull, OwnShareDiffers, BadOpening, RecordShort}
use Rattle.refusals.specs.Numbers.{number_of}

-- no refusal has the number 0
pub numbered : (r : Refusal) → 0 < number_of r
numbered NoHeader = omega arith
numbered BadField = omega arith
numbered BadParties = omega arith
numbered BadLength = omega arith
numbered NotBelowP = omega arith
numbered NoSharing = omega arith
numbered BadMask = omega arith
numbered BadTriple = omega arith
numbered BadCommand = omega arith
numbered BadEnd = omega arith
numbered OutOfRange = omega arith
numbered BadPresent = omega arith
numbered OutputShort = omega arith
numbered Unset = omega arith
numbered NoInput = omega arith
numbered NoMask = omega arith
numbered TooFewTriples = omega arith
numbered RecordFull = omega arith
numbered RevealedFull = omega arith
numbered BadLine = omega arith
numbered BadTime = omega arith
numbered SecondsFull = omega arith
numbered OwnShareDiffers = omega arith
numbered BadOpening = omega arith
numbered RecordShort = omega arith
