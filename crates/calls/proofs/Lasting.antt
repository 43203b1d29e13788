-- The tests of a call's times.
-- Assumes nothing.
use borrow.Author.Tests.{le-leb, lt-leb}

pub ruleset order_tests = (le-leb, lt-leb)
