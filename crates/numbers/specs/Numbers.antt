-- The numbers of document 01, each under one name: limits, lengths, kinds and refusals. The code has limits and lengths in src/lib.rt; editions, kinds and refusals are enums of `table`.
use Rattle.std.specs.Prelude.{ℕ}

-- callbacks of a table, and places of a lent row, at most; cost entries of a callback, at most
abbrev pub places : ℕ
places = 16

abbrev pub entry_places : ℕ
entry_places = 8

-- bytes of a header, and of a record
abbrev pub header_length : ℕ
header_length = 16

abbrev pub record_length : ℕ
record_length = 32

-- the largest period, delay, jitter, horizon, cost entry and cost, in ticks; and the horizon of a table that leaves H at 0
abbrev pub longest : ℕ
longest = 60000

abbrev pub default_horizon : ℕ
default_horizon = 60000

-- instances of a callback that wait, and ticks that a machine takes, at most
abbrev pub most_waiting : ℕ
most_waiting = 255

abbrev pub most_ticks : ℕ
most_ticks = 1000000000

-- editions: timers overtake the cache, or wait for a polling point as the rest do
abbrev pub edition_one : ℕ
edition_one = 1

abbrev pub edition_two : ℕ
edition_two = 2

-- kinds
abbrev pub timer : ℕ
timer = 1

abbrev pub subscription : ℕ
subscription = 2

abbrev pub service : ℕ
service = 3

abbrev pub client : ℕ
client = 4

-- refusals: header
abbrev pub short_header : ℕ
short_header = 1

abbrev pub unknown_edition : ℕ
unknown_edition = 2

abbrev pub wrong_count : ℕ
wrong_count = 3

abbrev pub wrong_length : ℕ
wrong_length = 4

abbrev pub spare_not_zero : ℕ
spare_not_zero = 5

abbrev pub wrong_supply : ℕ
wrong_supply = 6

abbrev pub wrong_delay : ℕ
wrong_delay = 22

abbrev pub wrong_horizon : ℕ
wrong_horizon = 7

-- refusals: record
abbrev pub wrong_kind : ℕ
wrong_kind = 8

abbrev pub wrong_next : ℕ
wrong_next = 9

abbrev pub wrong_entries : ℕ
wrong_entries = 10

abbrev pub above_sum : ℕ
above_sum = 24

-- refusals: links and arrivals
abbrev pub named_twice : ℕ
named_twice = 11

abbrev pub timer_named : ℕ
timer_named = 12

abbrev pub loop : ℕ
loop = 13

abbrev pub wrong_arrivals : ℕ
wrong_arrivals = 14

-- refusals: analyser and its row
abbrev pub no_window : ℕ
no_window = 15

abbrev pub too_many : ℕ
too_many = 16

abbrev pub short_row : ℕ
short_row = 17

-- refusals: writer
abbrev pub short_buffer : ℕ
short_buffer = 23

-- refusals: tick
abbrev pub ticks_spent : ℕ
ticks_spent = 18

abbrev pub wrong_cost : ℕ
wrong_cost = 19

abbrev pub not_a_head : ℕ
not_a_head = 20

abbrev pub queue_full : ℕ
queue_full = 21

abbrev pub faulty_state : ℕ
faulty_state = 29
