-- Listing 1 as a program, the ticket lock that replaces its second template at a ticket root, and their agreement with the step table.
pub mod Calls
pub mod TicketLock
pub mod Listing
pub mod Agreement
