-- The bytes that the program prints for the full recipe and its other histories, by 01's "One recipe in full".
-- Assumes nothing.
use Rattle.basics.specs.Quoted.{bytes}
use Rattle.std.specs.Prelude.{List, ◌++◌, ℕ}

-- the full recipe's counts, the first four lines of each output of its histories
abbrev pub recipe_counts : List ℕ
recipe_counts = bytes "horizon=1\natoms=5\nrules=12\nwords=53\n"

-- what is printed behind the counts where a history passes
abbrev pub passed_lines : List ℕ
passed_lines = bytes "answer=passes\nat=\ncausal=path\ntime=\nitem=\n"

-- what 01 prints for its full recipe
abbrev pub passed_output : List ℕ
passed_output = recipe_counts ++ passed_lines

-- M1 to M5
abbrev pub m1_output : List ℕ
m1_output = recipe_counts ++ bytes "answer=broken\nat=1\ncausal=contradicted\ntime=1\nitem=1\n"

abbrev pub m2_output : List ℕ
m2_output = recipe_counts ++ bytes "answer=unfounded\nat=8\ncausal=uncaused\ntime=1\nitem=flowed\n"

abbrev pub m3_output : List ℕ
m3_output = recipe_counts ++ bytes "answer=unfounded\nat=7\ncausal=uncaused\ntime=1\nitem=locked\n"

abbrev pub m4_output : List ℕ
m4_output = recipe_counts ++ bytes "answer=missing\nat=1\ncausal=none\ntime=\nitem=\n"

abbrev pub m5_output : List ℕ
m5_output = recipe_counts ++ bytes "answer=clash\nat=0\ncausal=none\ntime=\nitem=\n"
