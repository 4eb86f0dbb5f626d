-- Lemmas that belong to no one function. The laws that other crates cite: a list in order stays in order (Ordered); the groups are the trace,
-- cut, and no more than its fixes (Groups); the stay numbers line up with them (Lies), of all traces too (AllEvents);
-- medians of fixes within the coordinate limit are near enough for the distance (Limit), and without a grid those of the groups (GridOff); what `all_stays` finds trace by trace (AllStays);
-- where medians are read (MediansRead).
pub mod AtMost
pub mod Ordered
pub mod Shift
pub mod Regions
pub mod States
pub mod Groups
pub mod Run
pub mod Whole
pub mod Lies
pub mod Limit
pub mod MediansRead
pub mod AllStays
pub mod AllMedians
pub mod AllEvents
pub mod GridOff
pub mod EmptyTraces
