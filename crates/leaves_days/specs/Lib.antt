pub mod Calendar
pub mod Days
pub mod CalendarLaws
pub mod CalendarDates
pub mod DaysLaws
